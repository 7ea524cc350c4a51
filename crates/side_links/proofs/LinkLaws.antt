-- The link that two sites of a region may share: what is found joins them, and one of them may be far; and since two sites of a tree have at most one link
-- between them, such a link is found.
use Rattle.std.specs.Prelude.{List, ◌≢◌, ◌⊎◌, ◌≡◌, length}
use Rattle.std.proofs.Math.Logic.{inl, inr}
use Rattle.std.proofs.Common.{sym, ◌∙◌, arith}
use Prim.Native.Nat.{ℕ, ◌*◌, ◌≤◌, ◌<◌, max}
use Rattle.lists.specs.Numbers.{differ}
use Rattle.lists.specs.Sums.{same?, pick_same, pick_other, differ_same, differ-other, differ-le, product_one}
use Rattle.model.specs.Flows.{Tree, at}
use Rattle.theory_trees.specs.Trees.{at-le}
use Rattle.theory_walk.specs.Regions.{differ-one}
use Rattle.theory_regions.specs.Regions.{Region, lone}
use Rattle.theory_regions.specs.JoinedTree.{Between}
use Rattle.theory_regions.specs.Sharing.{first_from}
use Rattle.theory_regions.specs.SharingLaws.{no_double_link, joins-both, first_found, one_is_found}
use Rattle.theory_regions.specs.Meeting.{at_both, link-sites}
use Rattle.theory_regions.proofs.FarSites.{lone-le}
use Rattle.tree.specs.Links.{length-links}
use Rattle.tree.specs.Offer.{links}
use Rattle.region_links.specs.Partners.{joining}
use Rattle.region_sizes.specs.Offered.{region_by, Sited}
use Rattle.side_links.specs.SharedLink.{link_of}
use Rattle.side_links.specs.LinkLaws.{first_between, all}

module _ (a : Region) (x y : ℕ) where
  -- ---- test by test

  pub one_site_has_no_link : x ≡ y → link_of a x y ≡ length a.links
  unfolding link_of
  one_site_has_no_link e = pick_other (λ o. omega (arith, rw (differ_same e) at o)) (first_between a x y) (length a.links)

  pub no_link_is_between : length a.links ≤ first_between a x y → link_of a x y ≡ length a.links
  unfolding link_of
  no_link_is_between h =
      let test = differ x y * max (lone a x) (lone a y) in
      same? test 1
      (λ e. pick_same e (first_between a x y) (length a.links) ∙ elim (first_found (joining a.links x y) 0 (length a.links)) [
        | inl f ↦ omega (arith, f.0)
        | inr f ↦ absurd (omega (arith, f.0))
      ])
      (λ d. pick_other d (first_between a x y) (length a.links))

  pub neither_is_far : lone a x ≢ 1 → lone a y ≢ 1 → link_of a x y ≡ length a.links
  unfolding link_of
  neither_is_far d e =
      let none : max (lone a x) (lone a y) ≡ 0 = omega (arith, lone-le a x, lone-le a y) in
      pick_other (λ o. omega (arith, rw none at o)) (first_between a x y) (length a.links)

  pub one_of_two_is_far : x ≢ y → (lone a x ≡ 1) ⊎ (lone a y ≡ 1) → link_of a x y ≡ first_between a x y
  unfolding link_of
  one_of_two_is_far d far =
      let some : max (lone a x) (lone a y) ≡ 1 = elim far [ inl f ↦ omega (arith, lone-le a y) | inr f ↦ omega (arith, lone-le a x) ] in
      pick_same (rw (differ-other d, some) (omega arith)) (first_between a x y) (length a.links)

  -- ---- what is found

  pub a_link_that_is_found_joins_them : link_of a x y < length a.links → Between a.links (link_of a x y) x y × ((lone a x ≡ 1) ⊎ (lone a y ≡ 1))
  unfolding link_of
  a_link_that_is_found_joins_them l =
      let test = differ x y * max (lone a x) (lone a y) in
      same? test 1
      (λ e.
      let is-first : link_of a x y ≡ first_between a x y = pick_same e (first_between a x y) (length a.links) in
      let tests = product_one (differ x y) (max (lone a x) (lone a y)) (differ-le x y) e in
      let both = product_one (at a.links x (first_between a x y)) (at a.links y (first_between a x y)) (at-le a.links x (first_between a x y))
      (one_is_found (joining a.links x y) (length a.links) (omega (arith, is-first))) in (
        rw is-first (joins-both a.links (first_between a x y) x y (differ-one tests.0) both.0 both.1),
        same? (lone a x) 1 inl (λ d. inr (omega (arith, tests.1, lone-le a x, lone-le a y))),
      ))
      (λ d. absurd (omega (arith, pick_other d (first_between a x y) (length a.links))))

  pub a_link_between_them_is_found : Tree a.links a.sites → (j : ℕ) → j < length a.links → Between a.links j x y
      → (lone a x ≡ 1) ⊎ (lone a y ≡ 1) → link_of a x y ≡ j
  a_link_between_them_is_found T j l b far =
      let d = (link-sites T l b).2 in
      let here = at_both a.links j b in
      one_of_two_is_far d far ∙ elim (first_found (joining a.links x y) 0 (length a.links)) [
        | inl f ↦ absurd (f.1 j (omega arith) (omega arith) (rw (here.0, here.1) (omega arith)))
        | inr f ↦
            let both = product_one (at a.links x (first_between a x y)) (at a.links y (first_between a x y)) (at-le a.links x (first_between a x y)) f.1 in
            no_double_link T (first_between a x y) j x y (omega (arith, f.0)) l (joins-both a.links (first_between a x y) x y d both.0 both.1) b
      ]

-- ---- by lists, as the code tests it
module _ {n : ℕ} {one two marks : List ℕ} (w : Sited n one two marks) (c : List ℕ) (x y j : ℕ)
    (e : j ≡ first_from (joining (links one two) x y) 0 (length one)) where
  abbrev region : Region
  region = region_by n one two marks c

  first-between : j ≡ first_between region x y
  first-between = rw (all w x y j e) e

  pub no_link_is_told : length one ≤ j → length one ≡ link_of region x y
  no_link_is_told h = sym (no_link_is_between region x y (omega (arith, all w x y j e, first-between)) ∙ all w x y j e)

  pub the_link_is_told : x ≢ y → (lone region x ≡ 1) ⊎ (lone region y ≡ 1) → j ≡ link_of region x y
  the_link_is_told d far = first-between ∙ sym (one_of_two_is_far region x y d far)

  pub none-is-far-is-told : lone region x ≢ 1 → lone region y ≢ 1 → length one ≡ link_of region x y
  none-is-far-is-told d f = sym (neither_is_far region x y d f ∙ all w x y j e)

pub one-site-is-told : {n : ℕ} {one two marks : List ℕ} → Sited n one two marks → (c : List ℕ) (x y : ℕ) → x ≡ y
    → length one ≡ link_of (region_by n one two marks c) x y
one-site-is-told {n} {one} {two} {marks} w c x y e =
    sym (one_site_has_no_link (region_by n one two marks c) x y e ∙ length-links one two (sym w.placed.seconds))
