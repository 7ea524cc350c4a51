-- By the rule that is broken, then by the capacity and by where the names end.
use Rattle.std.proofs.Common.{◌≡◌, ◌+◌, length, sym, ◌∙◌, Err, arith, rules}
use Rattle.std.proofs.lemmas.Result.{MatchResult-at_ok, MatchResult-at_err}
use Rattle.sheet_kinds.specs.LineKinds.{fields, field, sized_link, link_line}
use Rattle.sheet_kinds.specs.LineKindLaws.{numbered}
use Rattle.sheet_kinds.specs.FormedLines.{link-ends}
use Rattle.sheet_kinds.proofs.link.Goals as goal

pub returns-in_err-map_err : goal.returns-in_err-map_err
unfolding link_line
returns-in_err-map_err c =
    let fs = fields c.args.line.now in
    let found = MatchResult-at_err _ _ _ c.in_err-map_err.was (numbered _ _ c.map_err.ensures.cases (sized_link c.args.edition fs)) in
    let line : link_line c.args.edition fs ≡ Err c.in_err-map_err.field-0.0 = rw (c.check_line.ensures, c.link_form.ensures) at found in
    rw line (search rules)

pub usable-requires : goal.usable-requires
usable-requires c =
    let found = MatchResult-at_ok _ _ _ c.in_ok-map_err.was (numbered _ _ c.map_err.ensures.cases (sized_link c.args.edition (fields c.args.line.now))) in
    (c.requires, (rw (c.check_line.ensures, c.link_form.ensures) at found).0)

pub returns-in_err-size : goal.returns-in_err-size
unfolding link_line sized_link
returns-in_err-size c =
    let fs = fields c.args.line.now in
    let found = MatchResult-at_ok _ _ _ c.in_ok-map_err.was (numbered _ _ c.map_err.ensures.cases (sized_link c.args.edition fs)) in
    let formed = rw (c.check_line.ensures, c.link_form.ensures) at found in
    let line : link_line c.args.edition fs ≡ Err c.in_err-size.field-0.0 = formed.1 ∙ rw (sym c.usable.ensures ∙ c.in_err-size.was) in
    rw line (search rules)

pub overflow_add-result : goal.overflow_add-result
overflow_add-result c =
    let found = MatchResult-at_ok _ _ _ c.in_ok-map_err.was (numbered _ _ c.map_err.ensures.cases (sized_link c.args.edition (fields c.args.line.now))) in
    let formed = rw (c.check_line.ensures, c.link_form.ensures) at found in
    omega (arith, link-ends c.args.line.now c.args.found c.requires c.args.edition.sizing formed.0)

pub returns : goal.returns
unfolding link_line sized_link
returns c =
    let fs = fields c.args.line.now in
    let found = MatchResult-at_ok _ _ _ c.in_ok-map_err.was (numbered _ _ c.map_err.ensures.cases (sized_link c.args.edition fs)) in
    let formed = rw (c.check_line.ensures, c.link_form.ensures) at found in
    let ends = link-ends c.args.line.now c.args.found c.requires c.args.edition.sizing formed.0 in
    let one = length (field fs 1) in
    let next : 2 + one + 1 ≡ 3 + one = omega arith in
    rw (ends.0, ends.1, next) (sym (formed.1 ∙ rw (sym c.usable.ensures ∙ c.in_ok-size.was)))
