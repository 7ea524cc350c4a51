-- `write_first` meets its contract: a word and a number.
use Rattle.std.proofs.Common.{arith}
use Rattle.model.specs.Text.{bytes}
use Rattle.text_writers.specs.Writing.{then}
use Rattle.region_report.specs.OneRegion.{first_text}
use Rattle.region_report.specs.OneRegionLaws.{a-word-and-a-number, a_number_is_short}
use Rattle.region_report.proofs.write_first.Goals as goal

pub put_number-requires : goal.put_number-requires
put_number-requires c = omega (arith, c.put_bytes-word.ensures.next, a_number_is_short c.args.size (omega arith))

pub returns : goal.returns
unfolding first_text
returns c = (
  rw (a-word-and-a-number (bytes "first") c.args.size) at (then c.put_bytes-word.ensures c.put_number.ensures),
  omega (arith, c.put_bytes-word.ensures.next, c.put_number.ensures.next, a_number_is_short c.args.size (omega arith)),
)
