-- `write_links`: a refused sheet has no lines, and an accepted one those of its network.
use Rattle.std.proofs.Common.{sym, ◌∙◌, arith}
use Rattle.planner.specs.Taken.{accepted_is_listed, refused_is_read}
use Rattle.text_writers.specs.Writing.{nothing}
use Rattle.region_report.specs.Laws.{no_lines_of_a_refused_sheet}
use Rattle.region_report.proofs.write_links.Goals as goal

pub size_lines-requires : goal.size_lines-requires
size_lines-requires c = (accepted_is_listed c.args.sheet.now _ (sym c.in-Ok.is ∙ c.read.ensures), c.requires)

pub returns-in-Err : goal.returns-in-Err
returns-in-Err c =
    let a = c.args in (
      rw (no_lines_of_a_refused_sheet a.sheet.now a.sizes.now (refused_is_read a.sheet.now _ (sym c.in-Err.is ∙ c.read.ensures))) (nothing a.buf.now a.at),
      omega (arith, c.requires),
    )
