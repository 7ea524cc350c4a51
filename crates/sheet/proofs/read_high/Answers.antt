-- `read_high`: a range sheet has the limits of the largest edition.
use native.Mathlib.Omega.{arith}
use Rattle.sheet.proofs.read_high.Goals as goal

pub read_as-requires : goal.read_as-requires
read_as-requires c = rw c.high.ensures (omega arith)
