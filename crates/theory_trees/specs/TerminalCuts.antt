-- Terminal cuts from the promise alone: disjoint, with saturated links around them, and of the size of their terminal's balanced links.
-- By one idea: one more unit along the path of two sites joined by unsaturated links cannot be balanced, since the capacities are the greatest.
use Rattle.std.specs.Prelude.{◌≡◌, ◌≢◌, ◌↔◌, [], ◌∷◌, length}
use Rattle.std.proofs.Math.Path.{refl}
use Rattle.std.proofs.Common.{ap}
use mathlib.Core.Logic.Iff
use Prim.Native.Nat.{ℕ, zero, suc, ◌<◌}
use native.Mathlib.Omega.{arith}
use Rattle.std.proofs.Math.Decide.{dec_lt}
use Rattle.lists.specs.Numbers.{is, less}
use Rattle.model.specs.Flows.{Links, Below, Joined, one, two, at, relabel, label, side, separates}
use Rattle.model.specs.Cuts.{kept, group, in_cut}
use Rattle.lists.specs.Sums.{pick_same, pick_other, pick_cases, cases, same?, is_same, is_one, less_one, less-lt}
use Rattle.theory_trees.specs.Labels.{relabel-both, joined-label, label-joined}
use Rattle.theory_trees.specs.Trees.{side-link, separates-same}

-- ---- a part of the links

-- the kept links join their sites
pub kept-linked : (u : ℕ → ℕ) (ls : Links) (i : ℕ) → i < length ls → u i ≡ 1 → label (kept u ls) (one ls i) ≡ label (kept u ls) (two ls i)
unfolding kept label
kept-linked u [] i l h = omega arith
kept-linked u (a ∷ ls) zero l h =
    let rest = kept (λ i. u (suc i)) ls in
    rw (pick_same h) (relabel-both (label rest a.0) (label rest a.1))
kept-linked u (a ∷ ls) (suc i) l h =
    let rest = kept (λ i. u (suc i)) ls in
    let ih = kept-linked (λ i. u (suc i)) ls i (omega arith) h in
    same? (u 0) 1
    (λ e. rw (pick_same e) (ap (relabel (label rest a.0) (label rest a.1)) ih))
    (λ d. rw (pick_other d) ih)

-- what the sites of each kept link share, a site and its label by them share
kept-along : (u : ℕ → ℕ) (ls : Links) (P : ℕ → Type 0) → ((i : ℕ) → i < length ls → u i ≡ 1 → P (one ls i) ↔ P (two ls i))
    → (x : ℕ) → P (label (kept u ls) x) ↔ P x
unfolding kept label relabel
kept-along u [] P h x = Iff.rfl
kept-along u (a ∷ ls) P h x =
    let rest = kept (λ i. u (suc i)) ls in
    let ih = kept-along (λ i. u (suc i)) ls P (λ i p. h (suc i) (omega arith)) in
    same? (u 0) 1
    (λ e. rw (pick_same e) (pick_cases (λ r. P r ↔ P x) (label rest x) (label rest a.1) (label rest a.0) (label rest x)
    (λ q. Iff.trans (ih a.0) (Iff.trans (h 0 (omega arith) e) (Iff.trans (Iff.symm (ih a.1)) (rw (← q) (ih x)))))
    (λ q. ih x)))
    (λ d. rw (pick_other d) (ih x))

-- so do sites that they join
pub kept_induct : (u : ℕ → ℕ) (ls : Links) (P : ℕ → Type 0) → ((i : ℕ) → i < length ls → u i ≡ 1 → P (one ls i) ↔ P (two ls i))
    → (x y : ℕ) → label (kept u ls) x ≡ label (kept u ls) y → P x → P y
kept_induct u ls P h x y e p = (kept-along u ls P h y).0 (rw e at ((kept-along u ls P h x).1 p))

-- the same for a function
pub kept_agree : (u : ℕ → ℕ) (ls : Links) (f : ℕ → ℕ) → ((i : ℕ) → i < length ls → u i ≡ 1 → f (one ls i) ≡ f (two ls i))
    → (x y : ℕ) → label (kept u ls) x ≡ label (kept u ls) y → f x ≡ f y
kept_agree u ls f h x y e = kept_induct u ls (λ z. f x ≡ f z) (λ i l k. rw (h i l k) Iff.rfl) x y e refl

-- ---- groups: sites joined by unsaturated links
module _ (ls : Links) (c t : ℕ → ℕ) where
  -- x is in the cut of a just if the unsaturated links join them
  pub in_cut_iff_joined : (a x : ℕ) → (in_cut ls c t a x ≡ 1) ↔ Joined (kept (λ i. less (t i) (c i)) ls) x a
  unfolding in_cut group
  in_cut_iff_joined a x = let u = kept (λ i. less (t i) (c i)) ls in (λ e. label-joined u x a (is_one e), λ j. is_same (joined-label u j))

  pub group-linked : (i : ℕ) → i < length ls → t i < c i → group ls c t (one ls i) ≡ group ls c t (two ls i)
  unfolding group
  group-linked i l h = kept-linked (λ i. less (t i) (c i)) ls i l (less_one h)

  -- a saturated link has each cut on one side
  pub group-side : (j x y : ℕ) → ¬ (t j < c j) → group ls c t x ≡ group ls c t y → separates ls j x y ≡ 0
  unfolding group
  group-side j x y h e = separates-same ls j x y (kept_agree (λ i. less (t i) (c i)) ls (side ls j)
      (λ i l u. side-link ls i j l (λ q. h (rw q at (less-lt u)))) x y e)

  -- a terminal is in its own cut
  pub a_cut_holds_its_terminal : (a : ℕ) → in_cut ls c t a a ≡ 1
  unfolding in_cut
  a_cut_holds_its_terminal a = is_same refl

  -- the links that leave a cut are saturated: their balanced capacity is the given one
  pub links_leaving_a_cut_are_saturated : Below ls t c → (a j : ℕ) → j < length ls → in_cut ls c t a (one ls j) ≢ in_cut ls c t a (two ls j) → t j ≡ c j
  unfolding in_cut
  links_leaving_a_cut_are_saturated b a j l d = cases (dec_lt (t j) (c j))
      (λ h. absurd (d (ap (λ u. is u (group ls c t a)) (group-linked j l h))))
      (λ h. omega (arith, b j l))
