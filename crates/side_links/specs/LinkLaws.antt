-- The link that two sites of a region may share: what is found joins them, and one of them may be far; and since two sites of a tree have at most one link
-- between them, such a link is found.
use Rattle.std.specs.Prelude.{List, ◌≡◌, length}
use Rattle.std.proofs.Math.Logic.{inl, inr}
use Rattle.std.proofs.Common.{sym, arith}
use Prim.Native.Nat.{ℕ, ◌<◌}
use Rattle.lists.specs.Sums.{product_one}
use Rattle.model.specs.Flows.{Site, at}
use Rattle.theory_trees.specs.Trees.{at-end, at-le}
use Rattle.theory_regions.specs.Regions.{Region}
use Rattle.theory_regions.specs.Sharing.{first_from}
use Rattle.theory_regions.specs.SharingLaws.{one_is_found}
use Rattle.tree.specs.Links.{length-links}
use Rattle.tree.specs.Offer.{links}
use Rattle.region_links.specs.Partners.{joining}
use Rattle.region_sizes.specs.Offered.{Sited}

module _ (a : Region) (x y : ℕ) where
  -- the first link at both
  abbrev pub first_between : ℕ
  first_between = first_from (joining a.links x y) 0 (length a.links)

-- ---- by lists, as the code tests it
module _ {n : ℕ} {one two marks : List ℕ} (w : Sited n one two marks) (x y j : ℕ)
    (e : j ≡ first_from (joining (links one two) x y) 0 (length one)) where
  pub all : length (links one two) ≡ length one
  all = length-links one two (sym w.placed.seconds)

  at-a-link : (v : ℕ) → j < length one → at (links one two) v j ≡ 1 → Site n v
  at-a-link v h f =
      let sites = w.ends j (omega (arith, all)) in
      elim (at-end (links one two) j f) [ inl g ↦ rw g at sites.0 | inr g ↦ rw g at sites.1 ]

  -- what is at a link is a site
  pub both_are_sites : j < length one → Site n x × Site n y
  both_are_sites h =
      let found = one_is_found (joining (links one two) x y) (length one) (omega (arith, e)) in
      let both = rw (← e) at (product_one _ _ (at-le (links one two) x _) found) in
      (at-a-link x h both.0, at-a-link y h both.1)
