-- `match_lists`: the pairs made so far, and the two lists still to be matched, of which the halves grow fewer.
use Rattle.std.proofs.Math.Seq.{slice}
use Rattle.model.specs.Pairing.{halves}
use Rattle.pairing_halves.specs.Arrays.{rest}
use Rattle.pairing_halves.proofs.Matching.{Half}
use Rattle.pairing_halves.proofs.match_lists.Given as goal

abbrev pub invariant-loop-down : goal.invariant-loop-down
invariant-loop-down l =
    Half (slice l.from l.top.ups l.ups) (rest l.downs l.fn.first l.top.downs) l.ups l.from l.top.ups l.downs l.top.downs l.fn.pairs l.top.pairs l.pairs l.up l.down l.end

abbrev pub decreases-loop-down : goal.decreases-loop-down
decreases-loop-down l = halves (rest l.downs l.down l.top.downs)
