-- `put_bytes` meets its contract: the part, and the byte that ends it.
use Rattle.text_writers.specs.Writing.{then}
use Rattle.text_writers.proofs.put_bytes.Goals as goal

pub returns : goal.returns
returns c = then c.put_part-next.ensures c.put_byte.ensures
