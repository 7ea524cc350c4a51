-- A report lies within the buffer, and what goes to standard output is the answer to the sheet that the input has.
use Rattle.std.proofs.Common.{rules, sym, length-take-le}
use Rattle.std.proofs.lemmas.Bool.{not-false}
use Rattle.report_program.specs.Printed.{span_printed}
use Rattle.report_program.proofs.Printing.{span_is_within, report_is_printed, refusal_is_printed, prints_of_input}
use Rattle.report_program.proofs.span.Goals as goal

pub slice_bounds-printed-end : goal.slice_bounds-printed-end
slice_bounds-printed-end g c = span_is_within _ _ _ _ c.in-Ok.ensures.told c.in-Ok.ensures.left

pub slice_bounds-write-end : goal.slice_bounds-write-end
slice_bounds-write-end g c = sym (length-take-le _ _ (span_is_within _ _ _ _ c.in-Ok.ensures.told c.in-Ok.ensures.left))

pub returns-in-Ok : goal.returns-in-Ok
returns-in-Ok g c went =
    let p = c.in-Ok.ensures in
    prints_of_input (g.R.Read.remaining c.args.input.now) (g.W.Write.contents c.args.out.now) (g.W.Write.contents c.write.new.out)
    c.read-given.result.count c.read-given.new.buf _ (span_printed) (search rules)
    (c.read-given.ensures.front (not-false _ c.if-not-given.false)) (c.write.ensures went)
    (report_is_printed _ _ _ _ p.told p.left)

pub returns-in-Err : goal.returns-in-Err
returns-in-Err g c went =
    let p = c.in-Err.ensures in
    prints_of_input (g.R.Read.remaining c.args.input.now) (g.W.Write.contents c.args.out.now) (g.W.Write.contents c.refuse.new.out)
    c.read-given.result.count c.read-given.new.buf _ (span_printed) (search rules)
    (c.read-given.ensures.front (not-false _ c.if-not-given.false)) (c.refuse.ensures.line went)
    (refusal_is_printed _ _ _ _ p.told p.left c.refuse.ensures.short (search rules))
