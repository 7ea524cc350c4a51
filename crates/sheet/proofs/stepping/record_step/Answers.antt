-- `record_step`: by the kind of the line; what the look-ups found is what their definition gives.
use Rattle.std.proofs.Common.{◌≡◌, ◌<◌, length, Ok, sym, ap, ◌∙◌, arith}
use Rattle.model.specs.Limits.{PLACES}
use Rattle.sheet_kinds.specs.declared.Line.TheVariants as Line
use Rattle.sheet_names.specs.Names.{ranges}
use Rattle.sheet_names.specs.LookupLaws.{length-ranges}
use Rattle.sheet.specs.Sheet.{record_step}
use Rattle.sheet.specs.StepCases.{labelled}
use Rattle.sheet.proofs.stepping.record_step.Goals as goal

pub link_step-requires : goal.link_step-requires
link_step-requires c =
    let a = c.args in
    let names = ranges a.starts.now a.ends.now 0 a.sites in
    let few : length names < PLACES = omega (arith, length-ranges a.starts.now a.ends.now 0 a.sites) in
    rw (c.find-first.ensures, c.find-second.ensures) (labelled a.sheet.now _ names PLACES few, labelled a.sheet.now _ names PLACES few)

pub returns-in-Ok-Site : goal.returns-in-Ok-Site
unfolding record_step
returns-in-Ok-Site c = λ net h.
    let a = c.args in
    let few : length net.names ≡ a.sites = ap length (sym h.names) ∙ length-ranges a.starts.now a.ends.now 0 a.sites in
    let is : a.line ≡ Ok (Line.Site c.in-Ok-Site.start c.in-Ok-Site.end c.in-Ok-Site.mark) = c.in-Ok-Site.is ∙ ap Ok (rw c.in-Ok-Site.is at c.in-Ok-Site.field-0-is) in
    rw (is, few, ← h.names, ← c.find-found.ensures) c.site_step.ensures

pub returns-in-Ok-Link : goal.returns-in-Ok-Link
unfolding record_step
returns-in-Ok-Link c = λ net h.
    let k = c.in-Ok-Link in
    let is : c.args.line ≡ Ok (Line.Link k.start k.end k.start2 k.end2 k.size) = k.is ∙ ap Ok (rw k.is at k.field-0-is) in
    rw (is, ← h.names, ← c.find-first.ensures, ← c.find-second.ensures) (c.link_step.ensures net.links h.labels_are)

pub returns-in-Err : goal.returns-in-Err
unfolding record_step
returns-in-Err c = λ net h. rw c.in-Err.is
