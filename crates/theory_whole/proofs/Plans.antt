-- Whole loads on a tree along an inward order: the loads that are computed are whole loads, and no others bring more to the terminals.
use Rattle.std.specs.Prelude.{◌≢◌, []}
use Prim.Native.Nat.{ℕ, ◌≤◌}
use Rattle.model.specs.Flows.{Links, Site, Tree, sum_at}
use Rattle.model.specs.Trimming.{elimination}
use Rattle.theory_trees.proofs.Orders.{elimination_is_inward, elimination_takes_only_sites}
use Rattle.theory_whole.specs.Plans.{Network}

-- the elimination order will do
pub by_elimination : {ls : Links} {n : ℕ} → Tree ls n → (terminal : ℕ → ℕ) → ((v : ℕ) → Site n v → terminal v ≢ 1 → 2 ≤ sum_at ls v (λ i. 1))
    → Network ls n terminal (elimination ls n)
by_elimination T terminal h = record { tree = T; inward = (elimination_is_inward T).inward; every = elimination_takes_only_sites T; joint = h }
