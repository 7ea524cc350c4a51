-- `copy`: the list is filled from the front.
use Rattle.std.proofs.Common.{◌≡◌}
use Rattle.lists.specs.Numbers.{look}
use Rattle.tree.specs.Places.{filled}
use Rattle.trimming_passes.proofs.copy.Given as goal

abbrev pub invariant-loop-j : goal.invariant-loop-j
invariant-loop-j l = l.to ≡ filled (look l.from) l.j l.fn.to
