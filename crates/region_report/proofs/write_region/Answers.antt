-- `write_region` meets its contract: the heading, then the lines of the links.
use Rattle.std.proofs.Common.{arith}
use Rattle.text_writers.specs.Writing.{then}
use Rattle.report_words.specs.TwoTexts.{two_numbers}
use Rattle.region_report.specs.Laws.{heading-is}
use Rattle.region_report.specs.TwoRegions.{region_text}
use Rattle.region_report.proofs.write_region.Goals as goal

pub put_numbers-at-requires : goal.put_numbers-at-requires
put_numbers-at-requires c = omega (arith, c.put_bytes-word.ensures.next, two_numbers c.args.number c.args.sum (omega arith) (omega arith))

pub write_links-requires : goal.write_links-requires
write_links-requires c =
    omega (arith, c.put_bytes-word.ensures.next, c.put_numbers-at.ensures.next, two_numbers c.args.number c.args.sum (omega arith) (omega arith))

pub returns : goal.returns
unfolding region_text
returns c =
    let heading = rw (heading-is c.args.number c.args.sum) at (then c.put_bytes-word.ensures c.put_numbers-at.ensures) in
    (then heading c.write_links.ensures.0, c.write_links.ensures.1)
