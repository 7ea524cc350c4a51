-- The invariant: the sites passed have higher keys.
use Rattle.std.proofs.Common.{ℕ, ◌<◌, ◌≤◌}
use Rattle.lists.specs.Numbers.{look}
use Rattle.tree_order.proofs.lowest_from.Given as goal

abbrev pub invariant-loop-x : goal.invariant-loop-x
invariant-loop-x l = (k : ℕ) → k < l.x → l.from ≤ k → 131072 ≤ look l.keys k
