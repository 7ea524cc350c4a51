-- By the rule that is broken, then by the amount and by where the names end.
use Rattle.std.proofs.Common.{◌≡◌, ◌+◌, length, sym, ◌∙◌, Err, Some, None, arith, rules, le-leb}
use Rattle.std.proofs.lemmas.Bool.{lt-leb}
use Rattle.std.proofs.lemmas.Result.{MatchResult-at_ok, MatchResult-at_err}
use Rattle.model.specs.Limits.{AMOUNT}
use Rattle.text_fields.specs.Fields.{fields, field}
use Rattle.text_grammar.specs.Grammar.{size_of}
use Rattle.sheet_kinds.specs.LineKindLaws.{numbered}
use Rattle.log_lines.specs.LogLines.{booking, line_as}
use Rattle.log_lines.proofs.BookingLaws.{ends_of_names, booking_by_size}
use Rattle.log_lines.proofs.line_as.Goals as goal

pub returns-in_err-map_err : goal.returns-in_err-map_err
unfolding line_as
returns-in_err-map_err c =
    let fs = fields c.args.line.now in
    let found = MatchResult-at_err _ _ _ c.in_err-map_err.was (numbered _ _ c.map_err.ensures.cases (booking c.args.opens fs)) in
    let line : line_as c.args.letter c.args.opens fs ≡ Err c.in_err-map_err.field-0.0 = rw (c.check_line.ensures, c.form.ensures) at found in
    rw line (search rules)

pub field-requires : goal.field-requires
field-requires c =
    let found = MatchResult-at_ok _ _ _ c.in_ok-map_err.was (numbered _ _ c.map_err.ensures.cases (booking c.args.opens (fields c.args.line.now))) in
    let formed = rw (c.check_line.ensures, c.form.ensures) at found in
    (c.requires, omega arith, omega (arith, (ends_of_names c.args.line.now c.args.letter formed.0 c.args.found c.requires).0))

pub returns-in_err-amount : goal.returns-in_err-amount
unfolding line_as
returns-in_err-amount c =
    let fs = fields c.args.line.now in
    let found = MatchResult-at_ok _ _ _ c.in_ok-map_err.was (numbered _ _ c.map_err.ensures.cases (booking c.args.opens fs)) in
    let formed = rw (c.check_line.ensures, c.form.ensures) at found in
    let size : size_of AMOUNT (field fs 3) ≡ c.size_of-size.result = sym (rw c.field.ensures at c.size_of-size.ensures) in
    let none : c.size_of-size.result ≡ None = grind arith in
    let line : line_as c.args.letter c.args.opens fs ≡ Err 3 = formed.1 ∙ booking_by_size c.args.opens fs ∙ rw (size, none) in
    rw line (search rules)

pub returns-then-none : goal.returns-then-none
unfolding line_as
returns-then-none c =
    let fs = fields c.args.line.now in
    let found = MatchResult-at_ok _ _ _ c.in_ok-map_err.was (numbered _ _ c.map_err.ensures.cases (booking c.args.opens fs)) in
    let formed = rw (c.check_line.ensures, c.form.ensures) at found in
    let size : size_of AMOUNT (field fs 3) ≡ c.size_of-size.result = sym (rw c.field.ensures at c.size_of-size.ensures) in
    let some : c.size_of-size.result ≡ Some c.in_ok-amount.amount = grind arith in
    sym (formed.1 ∙ booking_by_size c.args.opens fs ∙ rw (size, some, lt-leb 1 c.in_ok-amount.amount (omega arith)))

pub overflow_add-result : goal.overflow_add-result
overflow_add-result c =
    let found = MatchResult-at_ok _ _ _ c.in_ok-map_err.was (numbered _ _ c.map_err.ensures.cases (booking c.args.opens (fields c.args.line.now))) in
    let formed = rw (c.check_line.ensures, c.form.ensures) at found in
    omega (arith, ends_of_names c.args.line.now c.args.letter formed.0 c.args.found c.requires)

pub returns : goal.returns
unfolding line_as
returns c =
    let fs = fields c.args.line.now in
    let found = MatchResult-at_ok _ _ _ c.in_ok-map_err.was (numbered _ _ c.map_err.ensures.cases (booking c.args.opens fs)) in
    let formed = rw (c.check_line.ensures, c.form.ensures) at found in
    let size : size_of AMOUNT (field fs 3) ≡ c.size_of-size.result = sym (rw c.field.ensures at c.size_of-size.ensures) in
    let some : c.size_of-size.result ≡ Some c.in_ok-amount.amount = grind arith in
    let ends = ends_of_names c.args.line.now c.args.letter formed.0 c.args.found c.requires in
    let one = length (field fs 1) in
    let next : 2 + one + 1 ≡ 3 + one = omega arith in
    rw (ends.1, ends.2, next)
    (sym (formed.1 ∙ booking_by_size c.args.opens fs ∙ rw (size, some, le-leb 1 c.in_ok-amount.amount (omega arith))))
