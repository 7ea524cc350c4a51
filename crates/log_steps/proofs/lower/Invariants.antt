-- `lower`: the links before those that are still to come have the amount less, the others are as they were.
use Rattle.std.proofs.Common.{◌-◌, ◌*◌}
use Rattle.lists.specs.Numbers.{look}
use Rattle.tree_sets.specs.Members.{member}
use Rattle.log_steps.proofs.Walks.{Walking}
use Rattle.log_steps.proofs.lower.Given as goal

abbrev pub invariant-loop-link : goal.invariant-loop-link
invariant-loop-link l = Walking l.fn.path (λ j. look l.fn.load j - l.x * member l.fn.path j) l.fn.load l.link-iterator l.load
