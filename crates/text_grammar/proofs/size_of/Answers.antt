-- `size_of` meets its contract: a value with one more digit never falls, so one that does not fit a word is above the limit.
use Rattle.std.proofs.Common.{◌≡◌, ◌+◌, ◌-◌, ◌*◌, sym, ap, ◌∙◌, arith, get_or, drop_of_length-le}
use Rattle.std.specs.Prelude.{Some}
use Rattle.text_fields.specs.Fields.{value, value_from}
use Rattle.text_grammar.specs.SizeLaws.{value_turn, size-within, size_above}
use Rattle.text_grammar.proofs.size_of.Goals as goal

pub returns-in_err-checked_mul : goal.returns-in_err-checked_mul
returns-in_err-checked_mul c =
    let l = c.loop-b in
    let d : c.from-digit.result ≡ get_or c.args.s.now l.b-index 0 - 48 = cc in
    let turn = value_turn c.args.s.now l.value l.b-index c.from-digit.result (omega arith) d l.invariant.1 in
    c.from_residual.ensures ∙ sym (size_above _ _ (omega (arith, turn, c.in_err-checked_mul.ensures)))

pub returns-in_err-value : goal.returns-in_err-value
returns-in_err-value c =
    let l = c.loop-b in
    let d : c.from-digit.result ≡ get_or c.args.s.now l.b-index 0 - 48 = cc in
    let turn = value_turn c.args.s.now l.value l.b-index c.from-digit.result (omega arith) d l.invariant.1 in
    c.from_residual-in_err-value.ensures ∙ sym (size_above _ _ (omega (arith, turn, c.in_ok-checked_mul.ensures, c.in_err-value.ensures)))

pub returns-then-value-most : goal.returns-then-value-most
returns-then-value-most c =
    let l = c.loop-b in
    let d : c.from-digit.result ≡ get_or c.args.s.now l.b-index 0 - 48 = cc in
    let turn = value_turn c.args.s.now l.value l.b-index c.from-digit.result (omega arith) d l.invariant.1 in
    sym (size_above _ _ (omega (arith, turn, c.in_ok-checked_mul.ensures, c.in_ok-value.ensures)))

pub loop-b-preserved : goal.loop-b-preserved
loop-b-preserved c =
    let l = c.loop-b in
    let d : c.from-digit.result ≡ get_or c.args.s.now l.b-index 0 - 48 = cc in
    let turn = value_turn c.args.s.now l.value l.b-index c.from-digit.result (omega arith) d l.invariant.1 in
    let next : c.in_ok-value.value ≡ l.value * 10 + c.from-digit.result = omega (arith, c.in_ok-checked_mul.ensures, c.in_ok-value.ensures) in
    (omega arith, rw next turn.1)

pub returns : goal.returns
unfolding value_from
returns c =
    let s = c.args.s.now in
    let whole : value s ≡ c.loop-b.value = c.loop-b.invariant.1 ∙ rw (drop_of_length-le s {i = c.loop-b.b-index} (omega arith)) in
    sym (size-within _ s (omega arith) ∙ ap Some whole)
