-- Loads are balanced: what passes link j at a site v that is no end of an entry also passes another link at v.
use Rattle.std.specs.Prelude.{◌≡◌, ◌≢◌, length}
use Rattle.std.proofs.Math.Path.{ap}
use mathlib.Core.List.{List, [], ◌∷◌}
use Prim.Native.Nat.{ℕ, ◌+◌, ◌*◌, ◌≤◌, ◌<◌}
use native.Mathlib.Omega.{arith}
use Rattle.std.proofs.Math.Nat.{mul-le-mul_left}
use Rattle.lists.specs.Sums.{is-other, differ-le, differ_triangle, differ_comm, sum-add, sum-eq, sum_le_but}
use Rattle.model.specs.Flows.{Links, Site, Tree, at, sum_at, side, separates}
use Rattle.model.specs.declared.Pair.{Pair}
use Rattle.theory_trees.specs.Trees.{separates_triple, local}

-- every entry runs between sites other than v
abbrev pub Avoids : ℕ → ℕ → List Pair → Type 0
Avoids n v [] = Unit {0}
Avoids n v (e ∷ es) = (Site n e.first × Site n e.second × (e.first ≢ v) × (e.second ≢ v)) × Avoids n v es

module _ {ls : Links} {n : ℕ} (T : Tree ls n) (v j : ℕ) (pv : Site n v) (l : j < length ls) (a : at ls v j ≡ 1) where
  -- for y other than v: where link j at v separates x from v, and x from y, another link at v separates x and y too
  through : (x y : ℕ) → Site n x → Site n y → y ≢ v → separates ls j v x + separates ls j x y ≤ sum_at ls v (λ i. separates ls i x y) + separates ls j v y
  unfolding sum_at separates
  through x y p q e =
      let xy : ℕ → ℕ = λ i. at ls v i * separates ls i x y in
      let vx : ℕ → ℕ = λ i. at ls v i * separates ls i v x in
      omega (
        arith,
        local T v x pv p,
        local T v y pv q,
        is-other e,
        sum-add (length ls) xy vx,
        rw a at (sum_le_but (length ls) j (λ i. at ls v i * separates ls i v y) (λ i. xy i + vx i) l
            (λ i k _. omega (arith, mul-le-mul_left (at ls v i) (differ_triangle (side ls i v) (side ls i x) (side ls i y))))),
      )

  -- so twice over link j is no more than over all the links at v
  pub once : (x y : ℕ) → Site n x → Site n y → x ≢ v → y ≢ v → separates ls j x y + separates ls j x y ≤ sum_at ls v (λ i. separates ls i x y)
  unfolding sum_at separates
  once x y p q d e =
      let X = side ls j x in
      let Y = side ls j y in
      let Z = side ls j v in
      omega (
        arith,
        through x y p q e,
        through y x q p d,
        sum-eq (length ls) (λ i. at ls v i * separates ls i x y) (λ i. at ls v i * separates ls i y x)
            (λ i k. ap (λ c. at ls v i * c) (differ_comm (side ls i x) (side ls i y))),
        separates_triple T j v x y l pv p q,
        differ_triangle X Z Y,
        differ_comm X Z,
        differ_comm X Y,
        differ-le X Y,
        differ-le Z X,
        differ-le Z Y,
      )
