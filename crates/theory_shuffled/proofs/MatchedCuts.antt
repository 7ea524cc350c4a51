-- The terminal cuts of one network numbered in two ways: each cut is the same, with its size and its count, and each site has the same owner or none.
-- By the links that leave a cut, which are saturated in both numberings.
use Rattle.std.specs.Prelude.{◌≡◌}
use Rattle.std.proofs.Math.Path.{sym, ap}
use Rattle.std.proofs.Common.{◌∙◌, arith}
use Rattle.std.proofs.Math.Logic.{inl, inr}
use Prim.Native.Nat.{ℕ, ◌*◌, ◌≤◌, ◌<◌}
use Rattle.lists.specs.Numbers.{pick, differ}
use Rattle.lists.specs.Sums.{same?, pick_same, pick_other, is_one, is_le, differ_comm, less-lt}
use Rattle.model.specs.Flows.{Links, Site, Tree, one, two}
use Rattle.model.specs.Trimming.{Greatest}
use Rattle.model.specs.Cuts.{group, in_cut, cut_size, cut_count, owner}
use Rattle.theory_trees.specs.TerminalCuts.{kept_agree, a_cut_holds_its_terminal, links_leaving_a_cut_are_saturated}
use Rattle.theory_trees.specs.Owners.{owner-or-none}
use Rattle.theory_trees.proofs.Owners.{owner_iff_in_cut}
use Rattle.theory_shuffled.specs.Matched.{Matched}
use Rattle.theory_shuffled.proofs.MatchedLaws.{turned, sum_matched, over_matched, terminals-turned, the_balanced_agree}

module _ {ls ms : Links} {n m : ℕ} {d c site site⁻ link link⁻ : ℕ → ℕ} (M : Matched ls ms n m d c site site⁻ link link⁻)
    {terminal terminal' : ℕ → ℕ} (agree : (x : ℕ) → Site n x → terminal x ≡ terminal' (site x))
    {u t : ℕ → ℕ} (h : Greatest ls terminal d u) (g : Greatest ms terminal' c t) where
  -- what is in a cut of the one is in that cut of the other
  stays_in_cut : (a x : ℕ) → in_cut ls d u a x ≡ 1 → in_cut ms c t (site a) (site x) ≡ 1
  unfolding in_cut group
  stays_in_cut a x e =
      let f : ℕ → ℕ = λ z. in_cut ms c t (site a) (site z) in
      kept_agree _ ls f
      (λ i l o.
      let j = link i in
      let k = M.there.to-link i l in
      let low : t j < c j = omega (arith, less-lt o, M.there.capacity i l, the_balanced_agree M agree h g i l) in
      let q : in_cut ms c t (site a) (one ms j) ≡ in_cut ms c t (site a) (two ms j)
      = same? (in_cut ms c t (site a) (one ms j)) (in_cut ms c t (site a) (two ms j)) (λ z. z)
      (λ z. absurd (omega (arith, links_leaving_a_cut_are_saturated ms c t g.below (site a) j k z))) in
      elim (M.there.joins i l) [
        | inl b ↦ ap (in_cut ms c t (site a)) (sym b.0) ∙ q ∙ ap (in_cut ms c t (site a)) b.1
        | inr b ↦ ap (in_cut ms c t (site a)) (sym b.1) ∙ sym q ∙ ap (in_cut ms c t (site a)) b.0
      ])
      x a (is_one e) ∙ a_cut_holds_its_terminal ms c t (site a)

in_cut-le : (ls : Links) (c t : ℕ → ℕ) (a x : ℕ) → in_cut ls c t a x ≤ 1
unfolding in_cut
in_cut-le ls c t a x = is_le (group ls c t x) (group ls c t a)

module _ {ls ms : Links} {n m : ℕ} {d c site site⁻ link link⁻ : ℕ → ℕ} (M : Matched ls ms n m d c site site⁻ link link⁻)
    {terminal terminal' : ℕ → ℕ} (agree : (x : ℕ) → Site n x → terminal x ≡ terminal' (site x))
    {u t : ℕ → ℕ} (h : Greatest ls terminal d u) (g : Greatest ms terminal' c t) where
  -- each cut is the same
  pub the_cuts_agree : (a x : ℕ) → Site n a → Site n x → in_cut ls d u a x ≡ in_cut ms c t (site a) (site x)
  the_cuts_agree a x p q = same? (in_cut ls d u a x) 1
      (λ e. e ∙ sym (stays_in_cut M agree h g a x e))
      (λ e. same? (in_cut ms c t (site a) (site x)) 1
      (λ z. absurd (e (rw (M.site-there x q, M.site-there a p) at
      (stays_in_cut (turned M) (terminals-turned M terminal terminal' agree) g h (site a) (site x) z))))
      (λ z. omega (arith, in_cut-le ls d u a x, in_cut-le ms c t (site a) (site x))))

  -- and so are its size
  pub the_sizes_agree : (a : ℕ) → Site n a → cut_size ls d u a ≡ cut_size ms c t (site a)
  unfolding cut_size
  the_sizes_agree a p =
      let here = in_cut ls d u a in
      let away = in_cut ms c t (site a) in
      sum_matched M (λ i. differ (here (one ls i)) (here (two ls i)) * d i) (λ j. differ (away (one ms j)) (away (two ms j)) * c j)
      (λ i l.
      let e1 = the_cuts_agree a (one ls i) p (M.ends i l).0 in
      let e2 = the_cuts_agree a (two ls i) p (M.ends i l).1 in
      let e : differ (here (one ls i)) (here (two ls i)) ≡ differ (away (one ms (link i))) (away (two ms (link i))) = elim (M.there.joins i l) [
        | inl b ↦ rw (b.0, b.1, e1, e2)
        | inr b ↦ rw (b.0, b.1, e1, e2) (differ_comm (away (site (one ls i))) (away (site (two ls i))))
      ] in
      rw (e, M.there.capacity i l))

  -- and the number of its sites
  pub the_counts_agree : (a : ℕ) → Site n a → cut_count ls d u n a ≡ cut_count ms c t m (site a)
  unfolding cut_count
  the_counts_agree a p = over_matched M (in_cut ls d u a) (in_cut ms c t (site a)) (λ x. the_cuts_agree a x p)

  -- each site is owned by the same terminal, or by none in both
  pub the_owners_agree : Tree ms m → (x : ℕ) → Site n x
      → owner ms c t terminal' m (site x) ≡ pick (owner ls d u terminal n x) 0 0 (site (owner ls d u terminal n x))
  the_owners_agree T x q =
      let w = owner ls d u terminal n x in
      elim (owner-or-none ls d u terminal x n) [
        | inl r ↦ none r.1 ∙ sym (pick_same r.0 0 (site w))
        | inr r ↦ sym (pick_other (λ e. omega (arith, r.0)) 0 (site w)
            ∙ sym ((owner_iff_in_cut T terminal' g (site w) (M.there.to-site w r.0) (sym (agree w r.0) ∙ r.1) (site x)).1
            (sym (the_cuts_agree w x r.0 q) ∙ r.2)))
      ]
    where
      none : ((a : ℕ) → Site n a → terminal a ≡ 1 → in_cut ls d u a x ≡ 0) → owner ms c t terminal' m (site x) ≡ 0
      none free = elim (owner-or-none ms c t terminal' (site x) m) [
        | inl r ↦ r.0
        | inr r ↦
            let v = owner ms c t terminal' m (site x) in
            let a = site⁻ v in
            let p : Site n a = M.back.to-site v r.0 in
            let e : site a ≡ v = M.site-back v r.0 in
            absurd (omega (arith, free a p (agree a p ∙ ap terminal' e ∙ r.1), the_cuts_agree a x p q ∙ ap (λ y. in_cut ms c t y (site x)) e ∙ r.2))
      ]
