-- `write_answer` meets its contract: the heading, then the lines of the links.
use Rattle.std.proofs.Common.{arith}
use Rattle.model.specs.Text.{bytes}
use Rattle.text_writers.specs.Writing.{then}
use Rattle.region_report.specs.OneRegion.{answer_text}
use Rattle.region_report.specs.OneRegionLaws.{a-word-and-a-number, a_number_is_short}
use Rattle.region_report.proofs.write_answer.Goals as goal

pub put_number-at-requires : goal.put_number-at-requires
put_number-at-requires c = omega (arith, c.put_bytes-word.ensures.next, a_number_is_short c.args.sum (omega arith))

pub write_links-requires : goal.write_links-requires
write_links-requires c = omega (arith, c.put_bytes-word.ensures.next, c.put_number-at.ensures.next, a_number_is_short c.args.sum (omega arith))

pub returns : goal.returns
unfolding answer_text
returns c =
    let heading = rw (a-word-and-a-number (bytes "region") c.args.sum) at (then c.put_bytes-word.ensures c.put_number-at.ensures) in
    (then heading c.write_links.ensures.0, c.write_links.ensures.1)
