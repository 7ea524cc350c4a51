-- The total of a multiflow, told by the loads of the links at the terminals:
-- an entry crosses one link at each of its two sites and none at any other terminal.
use Rattle.std.specs.Prelude.{◌≡◌, refl, ◌≢◌, length}
use Rattle.std.proofs.Common.{sym, ◌∙◌}
use Rattle.std.proofs.Math.Path.{ap}
use mathlib.Core.List.{List, [], ◌∷◌}
use Prim.Native.Nat.{ℕ, ◌+◌, ◌*◌, ◌≤◌, ◌<◌}
use native.Mathlib.Omega.{arith}
use Rattle.lists.specs.Numbers.{is, over, Each}
use Rattle.model.specs.Flows.{Links, Site, sites, at, sum_at, separates, Tree, Route, Multiflow, load, total, at_terminals}
use Rattle.model.specs.declared.Pair.{Pair}
use Rattle.lists.specs.Sums.{same?, is_same, is-other}
use Rattle.theory_trees.specs.Trees.{separates_comm, sum_at_linear, local}
use Rattle.theory_walk.specs.Sound.{arises, Sound}
use Rattle.theory_trees.specs.Sites.{sites_once, sites-site, sum_at-same, sum_at-mul, sum_at-none}
use Rattle.lists.specs.Places.{over_add, over-mul, over-eq, over-is}

module _ {ls : Links} {n : ℕ} (T : Tree ls n) (terminal : ℕ → ℕ) where
  -- the links at terminal x that separate the sites of an entry: one where x is one of them, else none
  at-terminal : (e : Pair) → Route ls n terminal e → (x : ℕ) → Site n x
      → is (terminal x) 1 * sum_at ls x (λ i. separates ls i e.first e.second) ≡ is x e.first * 1 + is x e.second * 1
  at-terminal e p x px =
      let a = e.first in
      let b = e.second in
      let d : a ≢ b = p.different in
      same? x a
      (λ q. rw (q, is_same p.first-terminal, is_same {u = a} refl, is-other d) (omega (
        arith,
        local T a b p.first-site p.second-site,
        is-other {u = b} {v = a} (λ z. d (sym z)),
      )))
      (λ q. same? x b
      (λ o. rw (o, is_same p.second-terminal, is_same {u = b} refl, is-other {u = b} {v = a} (λ z. d (sym z))) (omega (
        arith,
        local T b a p.second-site p.first-site,
        is-other d,
        sum_at-same ls b (λ i. separates ls i a b) (λ i. separates ls i b a) (λ i l c. separates_comm ls i a b),
      )))
      (λ o. rw (is-other q, is-other o) (same? (terminal x) 1
      (λ t. rw (is_same t) (omega (arith, sum_at-none ls x (λ i. separates ls i a b) (λ i l c. p.free x i px t q o l c))))
      (λ t. rw (is-other t) (omega arith)))))

  -- so the loads at the terminals count every entry twice
  pub twice_total : (es : List Pair) → Multiflow ls n terminal es → at_terminals ls n terminal (load ls es) ≡ 2 * total es
  unfolding at_terminals load total
  twice_total [] p = omega (
    arith,
    over-mul (sites n) 0 (λ x. 0),
    over-eq (sites n) (λ x. is (terminal x) 1 * sum_at ls x (λ j. 0)) (λ x. 0 * 0) (λ x m. rw (sum_at-none ls x (λ j. 0) (λ i l a. refl)) (omega arith)),
  )
  twice_total (e ∷ es) p =
      let crossed : ℕ → ℕ = λ x. is (terminal x) 1 * sum_at ls x (λ j. separates ls j e.first e.second) in
      let rest : ℕ → ℕ = λ x. is (terminal x) 1 * sum_at ls x (load ls es) in
      let first = over-is (sites n) e.first (λ x. 1) in
      let second = over-is (sites n) e.second (λ x. 1) in
      let twice : over (sites n) crossed ≡ 2 = omega (
        arith,
        over-eq (sites n) crossed (λ x. is x e.first * 1 + is x e.second * 1) (λ x m. at-terminal e p.0 x (sites-site n x m)),
        over_add (sites n) (λ x. is x e.first * 1) (λ x. is x e.second * 1),
        rw (sites_once n e.first p.0.first-site) at first,
        rw (sites_once n e.second p.0.second-site) at second,
      ) in
      omega (
        arith,
        twice_total es p.1,
        over-eq (sites n) (λ x. is (terminal x) 1 * sum_at ls x (λ j. e.amount * separates ls j e.first e.second + load ls es j))
            (λ x. e.amount * crossed x + rest x)
            (λ x m. omega (arith, ap (λ s. is (terminal x) 1 * s) (sum_at_linear ls x e.amount (λ j. separates ls j e.first e.second) (load ls es)))),
        over_add (sites n) (λ x. e.amount * crossed x) rest,
        over-mul (sites n) e.amount crossed,
        ap (λ s. e.amount * s) twice,
      )

  -- with twice the capacities for loads, the total is the sum of the capacities at the terminals
  pub total-loaded : (t : ℕ → ℕ) (es : List Pair) → Multiflow ls n terminal es → ((j : ℕ) → j < length ls → load ls es j ≡ 2 * t j)
      → total es ≡ at_terminals ls n terminal t
  total-loaded t es p h = omega (arith, twice_total es p, double)
    where
      double : at_terminals ls n terminal (load ls es) ≡ 2 * at_terminals ls n terminal t
      double = unfold at_terminals in (over-eq (sites n) (λ x. is (terminal x) 1 * sum_at ls x (load ls es)) (λ x. 2 * (is (terminal x) 1 * sum_at ls x t))
          (λ x m. rw (sum_at-same ls x (load ls es) (λ j. 2 * t j) (λ j l a. h j l) ∙ sum_at-mul ls x 2 t) (omega arith))
          ∙ over-mul (sites n) 2 (λ x. is (terminal x) 1 * sum_at ls x t))

-- what is sound but for the total is sound
pub sound : {ls : Links} {n : ℕ} → Tree ls n → (terminal t : ℕ → ℕ) (es : List Pair) → ((j : ℕ) → j < length ls → load ls es j ≡ 2 * t j)
    → Multiflow ls n terminal es → Each (λ e. 1 ≤ e.amount) es → ((x y : ℕ) → arises es x y ≤ 1) → length es ≤ length ls → Sound ls n terminal t es
sound T terminal t es l r p o f = record { loads = l; routes = r; positive = p; once = o; few = f; sums = total-loaded T terminal t es r l }
