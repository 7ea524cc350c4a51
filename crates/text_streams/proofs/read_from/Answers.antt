-- One read more is taken behind the others.
use Rattle.std.proofs.Common.{rules}
use Rattle.text_streams.proofs.Taken.{Consumes_more}
use Rattle.text_streams.proofs.read_from.Goals as goal

pub loop-count-preserved : goal.loop-count-preserved
loop-count-preserved g c = (
  search rules,
  Consumes_more _ _ _ _ _ _ _ _ c.loop-count.invariant.0 c.read_once-some.ensures.count.0 c.loop-count.invariant.1 c.read_once-some.ensures.bytes,
)
