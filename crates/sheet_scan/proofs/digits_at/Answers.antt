-- The byte at place i is a digit, and the value before it is of few.
use Rattle.std.proofs.Common.{◌≡◌, ◌+◌, ◌-◌, suc, get_or, sym, ◌∙◌, arith}
use Rattle.text_fields.specs.Fields.{is_digit}
use Rattle.sheet_scan.specs.ScanLaws.{digit_bounds, run_more, one_digit_more, value_on, value-over}
use Rattle.sheet_scan.proofs.digits_at.Goals as goal

pub returns-then-not-is_digit : goal.returns-then-not-is_digit
returns-then-not-is_digit c =
    let l = c.loop-i in
    record {
      behind = omega arith;
      on_sheet = omega arith;
      run = l.invariant.run;
      value-is = l.invariant.goes-on l.i (omega arith) (omega arith) ∙ value-over c.args.sheet.now l.value l.i;
    }

pub loop-i-preserved : goal.loop-i-preserved
loop-i-preserved c =
    let l = c.loop-i in
    let s = c.args.sheet.now in
    let from = c.args.from in
    let last = sym c.is_digit.ensures ∙ c.if-not-is_digit.false in
    let digit = digit_bounds (get_or s l.i 0) last in
    let more : l.i + 1 - from ≡ suc (l.i - from) = omega arith in
    record {
      few = rw more (one_digit_more l.value (l.i - from) _ l.invariant.few (omega (arith, digit.1, c.from.ensures)));
      run = run_more is_digit s from l.i l.invariant.run last;
      goes-on = λ to p q. l.invariant.goes-on to (omega arith) q ∙ rw c.from.ensures (value_on s l.value l.i to (omega arith) q);
    }
