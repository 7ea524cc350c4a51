-- A byte that passes makes the run longer.
use Rattle.std.proofs.Common.{◌+◌, sym, ◌∙◌, arith}
use Rattle.text_fields.specs.Fields.{is_letter_or_digit}
use Rattle.sheet_scan.specs.ScanLaws.{run_more}
use Rattle.sheet_scan.proofs.run_end.Goals as goal

pub loop-i-preserved : goal.loop-i-preserved
loop-i-preserved c = λ k p q.
    let last = sym c.is_letter_or_digit.ensures ∙ c.if-not-is_letter_or_digit.false in
    run_more is_letter_or_digit c.args.sheet.now c.args.from (c.args.from + c.loop-i.i) c.loop-i.invariant last k p (omega arith)
