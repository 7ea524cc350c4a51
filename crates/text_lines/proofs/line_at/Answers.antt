-- `line_at` meets its contract: the part of the sheet from the line's start up to its end is the line.
use Rattle.std.proofs.Common.{◌≡◌, ℕ, ◌+◌, ap, arith}
use Rattle.text_lines.specs.Lines.{line_start}
use Rattle.text_lines.specs.LineLaws.{line_ends_on_sheet, from-start-to-end}
use Rattle.text_lines.proofs.line_at.Goals as goal

pub slice_bounds-result-count : goal.slice_bounds-result-count
slice_bounds-result-count c = omega (arith, line_ends_on_sheet c.args.sheet.now c.args.at)

pub slice_bounds-result-start : goal.slice_bounds-result-start
slice_bounds-result-start c = omega (arith, line_ends_on_sheet c.args.sheet.now c.args.at)

pub slice_bounds-result-end : goal.slice_bounds-result-end
slice_bounds-result-end c = omega (arith, line_ends_on_sheet c.args.sheet.now c.args.at)

pub returns : goal.returns
returns c =
    let a = c.args in
    let same : c.line_start-start.result + a.sheet.ref_ptr.1 ≡ a.sheet.ref_ptr.1 + line_start a.sheet.now a.at = omega arith in
    record {
      bytes = rw (c.line_start-start.ensures, c.line_end-end.ensures) (from-start-to-end a.sheet.now a.at);
      place = ap (λ (o : ℕ). (a.sheet.ref_ptr.0, o)) same;
    }
