-- `inward`: the notes are those of the sites taken so far.
use Rattle.whole_loops.specs.Ways.{Inward}
use Rattle.whole_loops.proofs.inward.Given as goal

abbrev pub invariant-loop-v : goal.invariant-loop-v
invariant-loop-v l = Inward l.v-index l.order l.parent l.above l.ends l.notes
