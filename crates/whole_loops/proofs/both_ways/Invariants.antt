-- `both_ways`: after the way inward, the sites from place i on have come.
use Rattle.whole_loops.proofs.Laws.{Outward}
use Rattle.whole_loops.proofs.both_ways.Given as goal

abbrev pub invariant-loop-i : goal.invariant-loop-i
invariant-loop-i l = Outward l.n l.i l.order l.parent l.above l.ends l.initial.notes l.notes
