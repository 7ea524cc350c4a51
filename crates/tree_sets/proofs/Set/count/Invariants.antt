-- The count of a set: after so many words the total is the number of members below them.
use Rattle.std.proofs.Common.{◌≡◌, ◌*◌, ◌≤◌}
use Rattle.lists.specs.Numbers.{sum}
use Rattle.tree_sets.specs.Members.{member}
use Rattle.tree_sets.proofs.Set.count.Given as goal

abbrev pub invariant-loop-word : goal.invariant-loop-word
invariant-loop-word l = record {
  so_far : l.total ≡ sum (l.word-index * 64) (member l.fn.self);
  small : l.total ≤ l.word-index * 64;
}
