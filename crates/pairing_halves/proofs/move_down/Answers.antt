-- `move_down`: each turn moves one entry.
use Rattle.std.proofs.Common.{arith}
use Rattle.pairing_halves.proofs.Moving.{moving_next}
use Rattle.pairing_halves.proofs.move_down.Goals as goal

pub loop-i-preserved : goal.loop-i-preserved
loop-i-preserved c = moving_next c.loop-i.invariant c.requires.0 (omega arith)
