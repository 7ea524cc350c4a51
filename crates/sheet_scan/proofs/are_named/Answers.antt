-- A byte that passes makes the run longer.
use Rattle.std.proofs.Common.{◌+◌, sym, ◌∙◌, arith}
use Rattle.text_fields.specs.Fields.{is_letter_or_digit}
use Rattle.text_fields.specs.FieldLaws.{both}
use Rattle.sheet_scan.specs.ScanLaws.{run_more}
use Rattle.sheet_scan.proofs.are_named.Goals as goal

pub loop-i-preserved : goal.loop-i-preserved
loop-i-preserved c = λ e k p q.
    let h = both c.loop-i.good c.is_letter_or_digit-good.result e in
    let s = c.args.sheet.now in
    let last = sym c.is_letter_or_digit-good.ensures ∙ h.1 in
    run_more is_letter_or_digit s c.args.at (c.args.at + c.loop-i.i) (c.loop-i.invariant h.0) last k p (omega arith)

pub returns : goal.returns
returns c = λ e k p q. c.loop-i.invariant e k p (omega arith)
