-- `link_loads`: the first j places hold the loads of the children.
use Rattle.std.proofs.Common.{◌≡◌}
use Rattle.lists.specs.Numbers.{look}
use Rattle.tree.specs.Places.{filled}
use Rattle.whole_notes.specs.Notes.{note}
use Rattle.whole_loads.proofs.link_loads.Given as goal

abbrev pub invariant-loop-j : goal.invariant-loop-j
invariant-loop-j l = l.lent ≡ filled (λ i. (note l.notes (look l.child i)).load) l.j l.fn.lent
