-- A line that ends with the sheet is the last.
use Rattle.std.proofs.Common.{arith}
use Rattle.text_lines.specs.LineLaws.{line_ends_on_sheet, next_line_is_past_the_end}
use Rattle.text_lines.proofs.after_line.Goals as goal

pub returns-else-end-sheet : goal.returns-else-end-sheet
returns-else-end-sheet c =
    omega (arith, next_line_is_past_the_end c.args.sheet.now c.args.at, line_ends_on_sheet c.args.sheet.now c.args.at)
