-- Two accepted sheets as two regions: each is a tree with a capacity for each link and no name twice, and the look-ups of names find the names in common.
-- So the decision tells what is asked of a pair, and where it holds all is so that document 02 says of the joined tree.
use Rattle.std.specs.Prelude.{Option, Some, None, List, ◌⊎◌, ◌≡◌, refl, ℕ, ◌-◌, length}
use Rattle.std.proofs.Common.{inl, inr, sym, arith}
use Rattle.std.proofs.Math.Decide.{dec_lt}
use Rattle.lists.specs.Sums.{cases}
use Rattle.model.specs.Flows.{Site}
use Rattle.model.specs.declared.Edition.{Edition}
use Rattle.text_fields.specs.Fields.{capitals}
use Rattle.sheet_names.specs.Names.{lookup}
use Rattle.sheet_names.specs.LookupLaws.{Says, lookup_says}
use Rattle.sheet.specs.Sheet.{Network, accepted, read_sheet, edition_of}
use Rattle.sheet.specs.SheetTheorem.{IsNetwork, an_accepted_sheet_is_a_tree}
use Rattle.theory_regions.specs.JoinedTree.{Border, Joins, position, glued, joined_tree}
use Rattle.theory_regions.specs.Regions.{Region, Given, given}
use Rattle.theory_regions.specs.Sharing.{Named}
use Rattle.theory_regions.specs.SharingLaws.{what_shares_one_link_is_neighbours}
use Rattle.theory_regions.proofs.JoinedNames.{the_joined_tree_is_named}
use Rattle.theory_regions.specs.TwoRegions.{Neighbours, OfTheJoinedTree}
use Rattle.theory_regions.proofs.TwoRegions.{two_regions_have_what_every_joined_tree_has, the_joined_tree_of_two_regions}
use Rattle.theory_regions.proofs.Again.{trimmed_again_has_each_link}
use Rattle.region_links.specs.Partners.{site_found}
use Rattle.exchanges.specs.Shared.{region_of, site_name, shown, given_to}
use Rattle.exchanges.specs.Causes.{BothRead, AcceptedPair}

-- the network of a sheet is a named region
named : {ed : Edition} {s : List ℕ} {net : Network} → IsNetwork ed s net → Named (region_of net) (site_name s net)
named {s = s} {net} I = record {
  tree = I.tree;
  sized = I.capacities;
  different = λ x y p q e. cases (dec_lt x y)
      (λ l. absurd (I.different (y - 1) (omega arith) (x - 1) (omega arith) e))
      (λ l. cases (dec_lt y x) (λ g. absurd (I.different (x - 1) (omega arith) (y - 1) (omega arith) (sym e))) (λ g. omega arith));
}

pub the_network_is_named : (known : List Edition) (s : List ℕ) (net : Network) → read_sheet known s ≡ accepted net → Named (region_of net) (site_name s net)
the_network_is_named known s net e = named (an_accepted_sheet_is_a_tree (edition_of known s) s net e)

-- ---- names in common

-- what the look-up of a text among the names of a sheet comes to: the site that has it as its name, in either case; or 0, and no site has it
found_or_not : (t : List ℕ) (other : Network) (f : List ℕ) (r : Option ℕ) → Says t other.names 1 f r
    → (Site (length other.names) (site_found r) × (capitals f ≡ site_name t other (site_found r)))
    ⊎ ((site_found r ≡ 0) × ((y : ℕ) → Site (length other.names) y → ¬ (capitals f ≡ site_name t other y)))
found_or_not t other f (Some v) h =
    let back : v - 1 ≡ h.0 = omega (arith, h.1) in
    inl ((omega (arith, h.1), omega (arith, h.1, h.2)), sym (rw back h.3))
found_or_not t other f None h = inr (refl, λ y p e. h (y - 1) (omega arith) (sym e))

pub a_look_up_finds_the_site_of_a_name : (t : List ℕ) (other : Network) (f : List ℕ) → let v = site_found (lookup t other.names f) in
    (Site (length other.names) v × (capitals f ≡ site_name t other v))
    ⊎ ((v ≡ 0) × ((y : ℕ) → Site (length other.names) y → ¬ (capitals f ≡ site_name t other y)))
a_look_up_finds_the_site_of_a_name t other f = found_or_not t other f (lookup t other.names f) (lookup_says t f other.names 1)

-- ---- accepted sheets
module _ {known : List Edition} {s : List ℕ} {net : Network} {t : List ℕ} {other : Network} (R : BothRead known s net t other) where
  abbrev pub first_named : Named (region_of net) (site_name s net)
  first_named = the_network_is_named known s net R.first

  abbrev pub second_named : Named (region_of other) (site_name t other)
  second_named = the_network_is_named known t other R.second

-- ---- an accepted pair
module _ {known : List Edition} {s : List ℕ} {net : Network} {t : List ℕ} {other : Network} {p q : Border} (X : AcceptedPair known s net t other p q) where
  abbrev a : Region
  a = region_of net

  abbrev b : Region
  b = region_of other

  pub a_pair_is_neighbours : Neighbours a p b q
  a_pair_is_neighbours = what_shares_one_link_is_neighbours (first_named X.read) (second_named X.read) X.share

  -- what the regions are given
  abbrev pub first_given : Given
  first_given = given_to net p.shared (shown other q.shared)

  abbrev pub second_given : Given
  second_given = given_to other q.shared (shown net p.shared)

  -- a trimmed size for each link
  pub a_size_for_each_link : (length first_given.sizes ≡ length net.links) × (length second_given.sizes ≡ length other.links)
  unfolding given
  a_size_for_each_link = (
    trimmed_again_has_each_link a_pair_is_neighbours.first (shown other q.shared),
    trimmed_again_has_each_link a_pair_is_neighbours.second (shown net p.shared),
  )

  -- the joined tree has every name of both sheets, each once
  pub the_joined_tree_has_each_name_once : Named (joined_tree a p b q) (glued a p b q (site_name s net) (site_name t other))
  the_joined_tree_has_each_name_once = the_joined_tree_is_named (first_named X.read) (second_named X.read) X.share

  -- what is given is what the joined tree has
  pub the_regions_have_what_the_joined_tree_has : OfTheJoinedTree a b (joined_tree a p b q) (λ i. i) (position a p b q) first_given second_given
  the_regions_have_what_the_joined_tree_has = the_joined_tree_of_two_regions a_pair_is_neighbours

  -- however it is numbered
  pub and_what_every_joined_tree_has : {u : Region} {site₁ link₁ site₂ link₂ : ℕ → ℕ} → Joins a p b q u site₁ link₁ site₂ link₂
      → OfTheJoinedTree a b u link₁ link₂ first_given second_given
  and_what_every_joined_tree_has J = two_regions_have_what_every_joined_tree_has a_pair_is_neighbours J
