-- By the rule that is broken, then by where the name ends.
use Rattle.std.proofs.Common.{◌≡◌, ◌+◌, length, sym, Ok, Err, rules}
use Rattle.std.proofs.lemmas.Result.{MatchResult-at_ok, MatchResult-at_err}
use Rattle.sheet_kinds.specs.LineKinds.{fields, field, site_line}
use Rattle.sheet_kinds.specs.LineKindLaws.{numbered}
use Rattle.sheet_kinds.specs.FormedLines.{site-end}
use Rattle.sheet_kinds.specs.declared.Line.TheVariants.{Site}
use Rattle.sheet_kinds.proofs.site.Goals as goal

pub returns-in_err-map_err : goal.returns-in_err-map_err
unfolding site_line
returns-in_err-map_err c =
    let fs = fields c.args.line.now in
    let told = numbered _ _ c.map_err.ensures.cases (Ok (Site 2 (2 + length (field fs 1)) c.args.mark)) in
    let found = MatchResult-at_err _ _ _ c.in_err-map_err.was told in
    let line : site_line c.args.letter c.args.mark fs ≡ Err c.in_err-map_err.field-0.0 = rw (c.check_line.ensures, c.site_form-form.ensures) at found in
    rw line (search rules)

pub returns : goal.returns
unfolding site_line
returns c =
    let fs = fields c.args.line.now in
    let told = numbered _ _ c.map_err.ensures.cases (Ok (Site 2 (2 + length (field fs 1)) c.args.mark)) in
    let found = MatchResult-at_ok _ _ _ c.in_ok-map_err.was told in
    let formed = rw (c.check_line.ensures, c.site_form-form.ensures) at found in
    rw (site-end c.args.line.now c.args.found c.requires c.args.letter formed.0) (sym formed.1)
