-- The ways are shorter, and x is no higher than the site, and has its label; it falls with each turn.
use Rattle.std.proofs.Common.{◌≡◌, ℕ, ◌≤◌}
use Rattle.tree_parents.specs.Parents.{Tells, Shorter}
use Rattle.tree_parents.proofs.root_by_halves.Given as goal

abbrev pub invariant-loop-x : goal.invariant-loop-x
invariant-loop-x l =
    (l.x ≤ l.site) × Shorter l.fn.parents l.parents × ((label : ℕ → ℕ) → Tells l.fn.parents label → label l.x ≡ label l.site)

abbrev pub decreases-loop-x : goal.decreases-loop-x
decreases-loop-x l = l.x
