-- `raise`: the links before those that are still to come have the amount more, the others are as they were.
use Rattle.std.proofs.Common.{◌+◌, ◌*◌}
use Rattle.lists.specs.Numbers.{look}
use Rattle.tree_sets.specs.Members.{member}
use Rattle.log_steps.proofs.Walks.{Walking}
use Rattle.log_steps.proofs.raise.Given as goal

abbrev pub invariant-loop-link : goal.invariant-loop-link
invariant-loop-link l = Walking l.fn.path (λ j. look l.fn.load j + l.x * member l.fn.path j) l.fn.load l.link-iterator l.load
