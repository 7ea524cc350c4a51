-- Loads are balanced: what passes link j at a site v that is no end of an entry also passes another link at v.
use Rattle.std.specs.Prelude.{◌≡◌, length}
use mathlib.Core.List.{List, [], ◌∷◌}
use Prim.Native.Nat.{ℕ, ◌+◌, ◌≤◌, ◌<◌}
use native.Mathlib.Omega.{arith}
use Rattle.std.proofs.Math.Nat.{mul-le-mul_left}
use Rattle.model.specs.Flows.{Links, Site, Tree, at, sum_at, others, separates, load}
use Rattle.model.specs.declared.Pair.{Pair}
use Rattle.theory_trees.specs.Trees.{sum_at_linear, others-add}
use Rattle.theory_trees.specs.Loads.{Avoids, once}

module _ {ls : Links} {n : ℕ} (T : Tree ls n) (v j : ℕ) (pv : Site n v) (l : j < length ls) (a : at ls v j ≡ 1) where
  -- and so for what all entries load together
  pub double : (es : List Pair) → Avoids n v es → load ls es j + load ls es j ≤ sum_at ls v (load ls es)
  unfolding load
  double [] h = omega arith
  double (e ∷ es) h =
      let w = h.0 in
      omega (
        arith,
        double es h.1,
        mul-le-mul_left e.amount (once T v j pv l a e.first e.second w.0 w.1 w.2 w.3),
        sum_at_linear ls v e.amount (λ i. separates ls i e.first e.second) (load ls es),
      )

  -- where no entry starts or ends at v, the load of a link at v is at most that of the other links at v together
  pub balance : (es : List Pair) → Avoids n v es → load ls es j ≤ others ls v j (load ls es)
  balance es h = omega (arith, double es h, others-add ls v j (load ls es) l a)
