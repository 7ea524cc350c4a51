-- Terminal cuts that stop at other terminals are the terminal cuts: over links that are not saturated a terminal reaches no other.
-- By going along the unsaturated links from the terminal: each site reached is in its cut, so no other terminal is at the next link.
use Rattle.std.specs.Prelude.{◌≡◌, refl, length}
use Rattle.std.proofs.Math.Path.{sym}
use Rattle.std.proofs.Common.{◌∙◌, arith}
use Prim.Native.Nat.{ℕ, ◌+◌, ◌<◌}
use Rattle.lists.specs.Numbers.{is, less}
use Rattle.lists.specs.Sums.{same?, is_same, is-other, is_iff, is_le, differ_same, less-lt, product_one}
use Rattle.model.specs.Flows.{Links, Site, Tree, one, two, label}
use Rattle.model.specs.Trimming.{Greatest}
use Rattle.model.specs.Cuts.{kept, group, in_cut, foreign, passable, in_stopped_cut}
use Rattle.theory_trees.specs.TerminalCuts.{kept-linked, kept_induct, kept_agree, group-linked}
use Rattle.theory_trees.proofs.TerminalCuts.{a_cut_holds_no_other_terminal}

module _ {ls : Links} {n : ℕ} (T : Tree ls n) (terminal : ℕ → ℕ) {c t : ℕ → ℕ} (g : Greatest ls terminal c t)
    (a : ℕ) (p : Site n a) (m : terminal a ≡ 1) where
  abbrev reach : ℕ → ℕ
  reach x = label (kept (passable ls c t terminal a) ls) x

  passable-less : (i : ℕ) → passable ls c t terminal a i ≡ 1 → less (t i) (c i) ≡ 1
  unfolding passable
  passable-less i e =
      let others = foreign terminal a (one ls i) + foreign terminal a (two ls i) in
      (product_one (is others 0) (less (t i) (c i)) (is_le others 0) e).1

  -- a site of the cut is no other terminal
  own : (w : ℕ) → Site n w → group ls c t w ≡ group ls c t a → foreign terminal a w ≡ 0
  unfolding foreign in_cut
  own w q e = same? (terminal w) 1
      (λ o. rw (differ_same (a_cut_holds_no_other_terminal T terminal g a w p q m o (is_same e))) (omega arith))
      (λ d. rw (is-other d) (omega arith))

  step : (i : ℕ) → i < length ls → less (t i) (c i) ≡ 1 → group ls c t (one ls i) ≡ group ls c t a → reach (one ls i) ≡ reach (two ls i)
  unfolding passable
  step i l u e =
      let s = group-linked ls c t i l (less-lt u) in
      kept-linked (passable ls c t terminal a) ls i l
      (rw (u, own (one ls i) (T.ends i l).0 e, own (two ls i) (T.ends i l).1 (sym s ∙ e)) (omega (arith, is_same {u = 0} refl)))

  -- the cuts stop at other terminals of themselves
  pub stopping_changes_nothing : (x : ℕ) → in_stopped_cut ls c t terminal a x ≡ in_cut ls c t a x
  unfolding in_stopped_cut in_cut group
  stopping_changes_nothing x =
      let P : ℕ → Type 0 = λ z. (group ls c t z ≡ group ls c t a) × (reach z ≡ reach a) in
      is_iff (reach x) (reach a) (group ls c t x) (group ls c t a)
      (λ e. kept_agree (passable ls c t terminal a) ls (group ls c t) (λ i l u. group-linked ls c t i l (less-lt (passable-less i u))) x a e)
      (λ e. (kept_induct (λ i. less (t i) (c i)) ls P
      (λ i l u. let s = group-linked ls c t i l (less-lt u) in (
        λ q. (sym s ∙ q.0, sym (step i l u q.0) ∙ q.1),
        λ q. (s ∙ q.0, step i l u (s ∙ q.0) ∙ q.1),
      )) a x (sym e) (refl, refl)).1)
