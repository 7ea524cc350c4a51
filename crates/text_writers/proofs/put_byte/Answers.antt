-- `put_byte` meets its contract: past the end of the buffer nothing is stored.
use Rattle.std.proofs.Common.{arith}
use Rattle.text_writers.specs.Writing.{past}
use Rattle.text_writers.proofs.put_byte.Goals as goal

-- That the place is past the end is left to `omega`, which finds it among the facts.
pub returns : goal.returns
returns c = past c.args.buf.now c.args.at c.args.b (omega arith)
