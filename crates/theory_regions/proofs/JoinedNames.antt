-- The joined tree by name: it has every name of both regions, each once, since the two shared names are the only ones in common.
use Rattle.std.specs.Prelude.{◌≡◌, ℕ}
use Rattle.std.proofs.Common.{sym, ap, ◌∙◌, inl, inr}
use Rattle.lists.specs.Sums.{same?}
use Rattle.model.specs.Flows.{Site}
use Rattle.theory_regions.specs.Regions.{Region}
use Rattle.theory_regions.specs.JoinedTree.{Border, place, glued, joined_tree}
use Rattle.theory_regions.specs.Sharing.{Named, SharesOneLink}
use Rattle.theory_regions.specs.Meeting.{near-site, far-site}
use Rattle.theory_regions.specs.Totals.{the_joined_tree_is_a_tree}
use Rattle.theory_regions.specs.Numbered.{place-near, place-far}
use Rattle.theory_regions.proofs.Numbered.{glued-first, glued-far, glued-second, joined_sized, the_joined_tree_joins}
use Rattle.theory_regions.specs.TwoRegions.{Neighbours}
use Rattle.theory_regions.specs.SharingLaws.{what_shares_one_link_is_neighbours}

module _ {N : Type 0} {a b : Region} {name₁ name₂ : ℕ → N} {p q : Border} (A : Named a name₁) (B : Named b name₂)
    (M : SharesOneLink a b name₁ name₂ p q) where
  abbrev both : Neighbours a p b q
  both = what_shares_one_link_is_neighbours A B M

  abbrev name : ℕ → N
  name = glued a p b q name₁ name₂

  -- a site of either region has its name there
  pub a_site_of_the_first_keeps_its_name : (x : ℕ) → Site a.sites x → name x ≡ name₁ x
  a_site_of_the_first_keeps_its_name x s = same? x p.far
      (λ e. rw e (glued-far both.first both.second name₁ name₂ ∙ sym M.far-near))
      (glued-first both.first both.second name₁ name₂ x s)

  pub a_site_of_the_second_keeps_its_name : (y : ℕ) → Site b.sites y → name (place a p b q y) ≡ name₂ y
  a_site_of_the_second_keeps_its_name y s = same? y q.far
      (λ e. rw (e, place-far both.first both.second) (a_site_of_the_first_keeps_its_name p.near (near-site both.first) ∙ M.near-far))
      (glued-second both.first both.second name₁ name₂ y s)

  -- a name that is in both regions is one site there
  one-site : (x y : ℕ) → Site a.sites x → Site b.sites y → name₁ x ≡ name₂ y → x ≡ place a p b q y
  one-site x y s r e = elim (M.no_other x y s r e) [
    | inl h ↦
        let z : y ≡ q.far = B.different y q.far r (far-site both.second) (sym e ∙ ap name₁ h ∙ M.near-far) in
        rw (z, place-far both.first both.second) h
    | inr h ↦
        let z : y ≡ q.near = B.different y q.near r (near-site both.second) (sym e ∙ ap name₁ h ∙ M.far-near) in
        rw (z, place-near both.first both.second) h
  ]

  there_different : (z w : ℕ) → Site (joined_tree a p b q).sites z → Site (joined_tree a p b q).sites w → name z ≡ name w → z ≡ w
  there_different z w sz sw e =
      let J = the_joined_tree_joins both.first both.second both.one_size in
      let first = a_site_of_the_first_keeps_its_name in
      let second = a_site_of_the_second_keeps_its_name in
      elim (J.each-site z sz) [
        | inl x ↦ elim (J.each-site w sw) [
          | inl y ↦ sym x.2 ∙ A.different x.0 y.0 x.1 y.1
              (sym (first x.0 x.1) ∙ ap name x.2 ∙ e ∙ ap name (sym y.2) ∙ first y.0 y.1) ∙ y.2
          | inr y ↦ sym x.2 ∙ one-site x.0 y.0 x.1 y.1
              (sym (first x.0 x.1) ∙ ap name x.2 ∙ e ∙ ap name (sym y.2) ∙ second y.0 y.1) ∙ y.2
        ]
        | inr x ↦ elim (J.each-site w sw) [
          | inl y ↦ sym x.2 ∙ sym (one-site y.0 x.0 y.1 x.1
              (sym (first y.0 y.1) ∙ ap name y.2 ∙ sym e ∙ ap name (sym x.2) ∙ second x.0 x.1)) ∙ y.2
          | inr y ↦ sym x.2 ∙ ap (place a p b q) (B.different x.0 y.0 x.1 y.1
              (sym (second x.0 x.1) ∙ ap name x.2 ∙ e ∙ ap name (sym y.2) ∙ second y.0 y.1)) ∙ y.2
        ]
      ]

  -- so it is a tree with a capacity for each link, and no two of its sites have one name
  pub the_joined_tree_is_named : Named (joined_tree a p b q) name
  the_joined_tree_is_named = record {
    tree = the_joined_tree_is_a_tree both.first both.second (the_joined_tree_joins both.first both.second both.one_size);
    sized = joined_sized both.first both.second;
    different = there_different;
  }
