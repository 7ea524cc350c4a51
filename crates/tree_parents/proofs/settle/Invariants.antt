-- The places passed hold their roots, the others their parents.
use Rattle.tree_parents.specs.Roots.{Settling}
use Rattle.tree_parents.proofs.settle.Given as goal

abbrev pub invariant-loop-x : goal.invariant-loop-x
invariant-loop-x l = Settling l.fn.parents l.x l.parents
