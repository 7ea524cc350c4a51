-- The names of an accepted sheet are different, so that two of them mean the link that joins their sites, where one of these may be far, and no other; and what
-- a step comes to, case by case.
use Rattle.std.specs.Prelude.{List, ◌⊎◌, ◌≡◌, ℕ, ◌≤◌, ◌<◌, length}
use Rattle.std.proofs.Common.{inl, inr, sym, ◌∙◌, arith}
use Rattle.std.proofs.Math.Logic.{⊎_swap}
use Rattle.std.proofs.Math.Path.{refl}
use Rattle.std.proofs.Math.Decide.{dec_lt}
use borrow.Author.Tests.{lt-ltb}
use Rattle.lists.specs.Sums.{cases}
use Rattle.model.specs.Flows.{Site}
use Rattle.model.specs.declared.Edition.{Edition}
use Rattle.text_fields.specs.Fields.{capitals}
use Rattle.sheet.specs.Sheet.{Network}
use Rattle.theory_regions.specs.Regions.{first_size, given}
use Rattle.theory_regions.specs.JoinedTree.{Border, Bordered}
use Rattle.theory_regions.specs.Sharing.{Named}
use Rattle.theory_regions.specs.Meeting.{link-sites}
use Rattle.theory_regions.proofs.FarSites.{lone_iff}
use Rattle.theory_regions.proofs.Again.{trimmed_again_has_each_link}
use Rattle.exchanges.specs.Shared.{region_of, site_name}
use Rattle.exchanges.specs.SharedLaws.{the_network_is_named, a_look_up_finds_the_site_of_a_name}
use Rattle.sides.specs.Outcome.{site_of, link_named, shown_as, show_over, show_read, first_shown}
use Rattle.sides.specs.Causes.{MayShare, AcceptedSide}
use Rattle.side_links.proofs.LinkLaws.{a_link_that_is_found_joins_them, a_link_between_them_is_found}

-- ---- names
module _ (s : List ℕ) (net : Network) (own : Named (region_of net) (site_name s net)) where
  -- the site of a name is found
  the_site_is_found : (name : List ℕ) (v : ℕ) → Site (length net.names) v → site_name s net v ≡ capitals name → site_of s net name ≡ v
  the_site_is_found name v h f = elim (a_look_up_finds_the_site_of_a_name s net name) [
    | inl g ↦ own.different (site_of s net name) v g.0 h (sym g.1 ∙ sym f)
    | inr g ↦ absurd (g.1 v h (sym f))
  ]

  -- a site that is found has the name
  what_is_found_has_the_name : (name : List ℕ) → 1 ≤ site_of s net name → site_name s net (site_of s net name) ≡ capitals name
  what_is_found_has_the_name name h = elim (a_look_up_finds_the_site_of_a_name s net name) [ inl g ↦ sym g.1 | inr g ↦ absurd (omega (arith, g.0)) ]

  module _ (name name' : List ℕ) where
    abbrev x : ℕ
    x = site_of s net name

    abbrev y : ℕ
    y = site_of s net name'

    pub the_link_is_meant : {p : Border} → MayShare s net name name' p → link_named s net name name' ≡ p.shared
    the_link_is_meant {p} M =
        let at = link-sites own.tree M.link M.joins in
        let far = (lone_iff (region_of net) p.far).1 (M.single, M.plain) in
        elim M.names [
          | inl n ↦ rw (the_site_is_found name p.near at.0 n.0, the_site_is_found name' p.far at.1 n.1)
              (a_link_between_them_is_found (region_of net) p.near p.far own.tree p.shared M.link M.joins (inr far))
          | inr n ↦ rw (the_site_is_found name p.far at.1 n.0, the_site_is_found name' p.near at.0 n.1)
              (a_link_between_them_is_found (region_of net) p.far p.near own.tree p.shared M.link (⊎_swap M.joins) (inl far))
        ]

    -- the link that is found is meant
    what-is-found-is-meant : link_named s net name name' < length net.links → (p : Border) × MayShare s net name name' p
    what-is-found-is-meant l =
        let found = a_link_that_is_found_joins_them (region_of net) x y l in
        let at = link-sites own.tree l found.0 in
        let first = what_is_found_has_the_name name at.0.0 in
        let second = what_is_found_has_the_name name' at.1.0 in
        elim found.1 [
          | inl f ↦
              let far = (lone_iff (region_of net) x).0 f in (
                record { shared = link_named s net name name'; near = y; far = x },
                record { names = inr (first, second); link = l; joins = ⊎_swap found.0; single = far.0; plain = far.1 },
              )
          | inr f ↦
              let far = (lone_iff (region_of net) y).0 f in (
                record { shared = link_named s net name name'; near = x; far = y },
                record { names = inl (first, second); link = l; joins = found.0; single = far.0; plain = far.1 },
              )
        ]

    -- two names mean a link, or none
    pub meant? : ((p : Border) × MayShare s net name name' p) ⊎ ((p : Border) → ¬ (MayShare s net name name' p))
    meant? = cases (dec_lt (link_named s net name name') (length net.links))
        (λ l. inl (what-is-found-is-meant l))
        (λ l. inr (λ p M. omega (arith, the_link_is_meant M, M.link)))

    pub no_link_is_meant : ((p : Border) → ¬ (MayShare s net name name' p)) → length net.links ≤ link_named s net name name'
    no_link_is_meant none = cases (dec_lt (link_named s net name name') (length net.links))
        (λ l. let r = what-is-found-is-meant l in absurd (none r.0 r.1))
        (λ l. omega arith)

-- ---- what a step comes to
module _ {known : List Edition} {s : List ℕ} {net : Network} {name name' : List ℕ} {p : Border} (A : AcceptedSide known s net name name' p) where
  own_names : Named (region_of net) (site_name s net)
  own_names = the_network_is_named known s net A.read

  pub its_link : link_named s net name name' ≡ p.shared
  its_link = the_link_is_meant s net own_names name name' A.share

  -- the shared link is a border of the region
  pub a_side_is_bordered : Bordered (region_of net) p
  a_side_is_bordered =
      record { tree = own_names.tree; sized = own_names.sized; here = A.share.link; between = A.share.joins; single = A.share.single }

  pub its_first_size_is_shown : first_shown known s name name' ≡ shown_as (first_size (region_of net) p.shared)
  unfolding first_shown show_read show_over
  its_first_size_is_shown = rw (A.read, its_link, lt-ltb _ _ A.share.link) refl

  module _ (told : ℕ) (l : List ℕ) where
    -- there is a trimmed size for each link
    pub a_size_for_each_link : length (given (region_of net) p.shared told).sizes ≡ length net.links
    unfolding given
    a_size_for_each_link = trimmed_again_has_each_link a_side_is_bordered told
