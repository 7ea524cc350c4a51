-- `put_limit` meets its contract: the text, then the number.
use Rattle.text_writers.specs.Writing.{then}
use Rattle.report_causes.proofs.put_limit.Goals as goal

pub returns : goal.returns
returns c = then c.put_bytes-next.ensures c.put_grouped.ensures
