-- `move_down`: the entries before place i are moved.
use Rattle.pairing_halves.proofs.Moving.{Moving}
use Rattle.pairing_halves.proofs.move_down.Given as goal

abbrev pub invariant-loop-i : goal.invariant-loop-i
invariant-loop-i l = Moving l.fn.list l.from l.base l.list l.i
