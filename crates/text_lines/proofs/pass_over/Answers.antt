-- `pass_over` meets its contract: the bytes passed are not 10.
use Rattle.std.proofs.Common.{◌∙◌, arith}
use Rattle.text_lines.specs.LineLaws.{bytes_on}
use Rattle.text_lines.proofs.pass_over.Goals as goal

pub loop-end-preserved : goal.loop-end-preserved
loop-end-preserved c =
    let on = bytes_on c.args.sheet.now c.loop-end.end 8 (omega arith) (c.has_ten.ensures c.if-has_ten.false) in
    (omega arith, on ∙ c.loop-end.invariant.1)
