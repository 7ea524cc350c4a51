-- `OpenPairs::shrink`: something is left at place k, or the last entry stands there.
use Rattle.std.proofs.Common.{arith}
use Rattle.log_pairs.specs.Rows.{held_shrunk, held_gone}
use Rattle.log_pairs.proofs.OpenPairs.shrink.Goals as goal

pub returns-then-x-self : goal.returns-then-x-self
returns-then-x-self c = held_shrunk c.requires c.if-x-self.true

pub returns : goal.returns
returns c = held_gone c.requires (omega arith)
