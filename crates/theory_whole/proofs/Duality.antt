-- No end sets do better than a plan: the total of a plan in whole circuits and the odd pieces of any end sets together are at most the set sizes
-- (004, theorem 2). By parity: a route crosses the border of each set that holds just one of its ends, and the loads of the links that leave a piece sum to an
-- even number, so that an odd piece leaves a part of their capacities unused.
use mathlib.Core.List.{List, []}
use Prim.Native.Nat.{ℕ, ◌+◌, ◌-◌, ◌≤◌}
use native.Mathlib.Omega.{arith}
use Rattle.model.specs.Flows.{Links, Tree, total}
use Rattle.model.specs.Whole.{WholePlan, EndSets, set_sizes, odd_pieces}
use Rattle.model.specs.declared.Pair.{Pair}
use Rattle.theory_whole.specs.PlanLoads.{halved}
use Rattle.theory_whole.proofs.PlanLoads.{plan_loads, halved_routes, halved-total}
use Rattle.theory_whole.specs.Duality.{sizes-have-room, total_crosses}

-- for any tree, any capacities, any end sets and any plan in whole circuits that fits
pub no_sets_do_better : {ls : Links} {n : ℕ} → Tree ls n → (terminal c owner : ℕ → ℕ) → EndSets n terminal owner
    → (es : List Pair) → WholePlan ls n terminal c es
    → total es + odd_pieces ls n c owner ≤ set_sizes ls n terminal c owner
no_sets_do_better {ls} {n} T terminal c owner E es w = omega (
  arith,
  halved-total es w.even,
  total_crosses T terminal owner E (halved es) (halved_routes ls n terminal es w.routes),
  sizes-have-room T terminal owner E c (plan_loads T terminal es w).0,
)
