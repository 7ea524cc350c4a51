-- `read_lines`: every turn reads the line at an offset, and after the last line all sites have to be joined.
use Rattle.std.proofs.Common.{◌≡◌, List, ℕ, ◌-◌, ◌<◌, length, true, Ok, sym, ap, ◌∙◌, arith}
use Rattle.model.specs.declared.Edition.{Edition}
use Rattle.text_lines.specs.Lines.{after_line, has_line}
use Rattle.text_lines.specs.LineLaws.{a_line_is_on_the_sheet, no_line_is_on_the_sheet, after-line-is-later}
use Rattle.sheet_scan.specs.Scan.{scanned}
use Rattle.sheet_scan.specs.declared.Scanned.{Scanned}
use Rattle.sheet.specs.Reading.{reading}
use Rattle.sheet.proofs.Passed.{passed}
use Rattle.sheet.proofs.Progress.{start, lengths, table_is, held, by_heading, site-fits, site_lies, by_site, link_fits, by_link}
use Rattle.sheet.proofs.Progress.{by_refusal, by_parts, by_acceptance}
use Rattle.sheet.proofs.read_lines.Goals as goal

-- the next line is the one after this, which is later
next-is : (ed : Edition) (s : List ℕ) (at : ℕ) {found : Scanned} → found ≡ scanned ed s at → found.next ≡ after_line s at
unfolding scanned
next-is ed s at e = ap (λ f. f.next) e

less : (ed : Edition) (s : List ℕ) (at : ℕ) {found : Scanned} → found ≡ scanned ed s at → true ≡ has_line s at → length s - found.next < length s - at
less ed s at e h = omega (arith, a_line_is_on_the_sheet s at (sym h), next-is ed s at e, after-line-is-later s at (sym h))

pub loop-edition-init : goal.loop-edition-init
loop-edition-init c = rw (c.requires.1, c.own_labels-parents.ensures) (start c.args.edition c.requires.0 c.args.sheet.now)

pub step_at-requires : goal.step_at-requires
step_at-requires c = let P = c.loop-edition.invariant in ((lengths P).1, table_is P, P.on_sheet, c.scan-found.ensures)

pub returns-in_err-step : goal.returns-in_err-step
unfolding reading
returns-in_err-step c =
    let P = c.loop-edition.invariant in
    let h = a_line_is_on_the_sheet _ _ (sym c.loop-edition-test.ensures) in
    let cause = by_refusal P _ h (c.step_at.ensures P.read (held P)) _ c.in_err-step.was in
    rw (passed c.from_residual.result c.from_residual.ensures.1, cause)

pub loop-edition-smaller-in-Nothing : goal.loop-edition-smaller-in-Nothing
loop-edition-smaller-in-Nothing c = less c.args.edition c.args.sheet.now c.loop-edition.at c.scan-found.ensures c.loop-edition-test.ensures

pub loop-edition-preserved-in-Nothing : goal.loop-edition-preserved-in-Nothing
loop-edition-preserved-in-Nothing c =
    let P = c.loop-edition.invariant in
    let h = a_line_is_on_the_sheet _ _ (sym c.loop-edition-test.ensures) in
    rw (next-is _ _ _ c.scan-found.ensures)
    (by_heading P _ h (c.step_at.ensures P.read (held P)) (c.in_ok-step.was ∙ ap Ok c.in-Nothing.is))

pub add_site-requires : goal.add_site-requires
add_site-requires c =
    let P = c.loop-edition.invariant in
    let h = a_line_is_on_the_sheet _ _ (sym c.loop-edition-test.ensures) in
    site-fits P _ h (c.step_at.ensures P.read (held P)) _ _ _ (c.in_ok-step.was ∙ ap Ok c.in-Site.is)

pub enter-requires : goal.enter-requires
enter-requires c =
    let P = c.loop-edition.invariant in
    let h = a_line_is_on_the_sheet _ _ (sym c.loop-edition-test.ensures) in
    let e = c.step_at.ensures P.read (held P) in
    let is = c.in_ok-step.was ∙ ap Ok c.in-Site.is in
    let lies = site_lies P _ h e _ _ _ is in
    rw c.add_site.ensures (omega (arith, site-fits P _ h e _ _ _ is), lies.0, lies.1)

pub loop-edition-smaller-in-Site : goal.loop-edition-smaller-in-Site
loop-edition-smaller-in-Site c = less c.args.edition c.args.sheet.now c.loop-edition.at c.scan-found.ensures c.loop-edition-test.ensures

pub loop-edition-preserved-in-Site : goal.loop-edition-preserved-in-Site
loop-edition-preserved-in-Site c =
    let P = c.loop-edition.invariant in
    let h = a_line_is_on_the_sheet _ _ (sym c.loop-edition-test.ensures) in
    rw (next-is _ _ _ c.scan-found.ensures, c.add_site.ensures)
    (by_site P _ h (c.step_at.ensures P.read (held P)) _ _ _ (c.in_ok-step.was ∙ ap Ok c.in-Site.is) _ (rw c.add_site.ensures at c.enter.ensures))

pub add_link-requires : goal.add_link-requires
add_link-requires c =
    let P = c.loop-edition.invariant in
    let h = a_line_is_on_the_sheet _ _ (sym c.loop-edition-test.ensures) in
    (link_fits P _ h (c.step_at.ensures P.read (held P)) _ _ _ (c.in_ok-step.was ∙ ap Ok c.in-Link.is)).0

pub join-requires : goal.join-requires
join-requires c =
    let P = c.loop-edition.invariant in
    let h = a_line_is_on_the_sheet _ _ (sym c.loop-edition-test.ensures) in
    let fits = link_fits P _ h (c.step_at.ensures P.read (held P)) _ _ _ (c.in_ok-step.was ∙ ap Ok c.in-Link.is) in
    (P.labels_are.lower, omega (arith, P.labels_are.long, fits), omega (arith, P.labels_are.long, fits))

pub loop-edition-smaller : goal.loop-edition-smaller
loop-edition-smaller c = less c.args.edition c.args.sheet.now c.loop-edition.at c.scan-found.ensures c.loop-edition-test.ensures

pub loop-edition-preserved : goal.loop-edition-preserved
loop-edition-preserved c =
    let P = c.loop-edition.invariant in
    let h = a_line_is_on_the_sheet _ _ (sym c.loop-edition-test.ensures) in
    rw (next-is _ _ _ c.scan-found.ensures, c.add_link.ensures)
    (by_link P _ h (c.step_at.ensures P.read (held P)) _ _ _ (c.in_ok-step.was ∙ ap Ok c.in-Link.is) c.join.ensures)

pub returns-then-not-is_whole : goal.returns-then-not-is_whole
unfolding reading
returns-then-not-is_whole c =
    let ended = no_line_is_on_the_sheet _ _ (sym c.loop-edition-test.ensures) in
    rw (by_parts c.loop-edition.invariant ended c.settle.ensures (sym c.is_whole.ensures ∙ c.if-not-is_whole.true))

pub returns : goal.returns
returns c =
    let ended = no_line_is_on_the_sheet _ _ (sym c.loop-edition-test.ensures) in
    sym (by_acceptance c.loop-edition.invariant ended c.settle.ensures (sym c.is_whole.ensures ∙ c.if-not-is_whole.false))
