-- `account`: each line takes the plan from its offset to the next one, up to the lowest faulty line.
use Rattle.std.proofs.Common.{true, ◌≡◌, refl, sym, ◌∙◌, arith}
use Rattle.std.proofs.Math.Path.{subst}
use Rattle.lists.specs.Numbers.{look}
use Rattle.model.specs.Booking.{Asked}
use Rattle.tree.specs.Offer.{links}
use Rattle.text_lines.specs.Lines.{after_line}
use Rattle.text_lines.specs.LineLaws.{a_line_is_on_the_sheet, no_line_is_on_the_sheet, after-line-is-later, after_the_end_of_a_line}
use Rattle.sheet_names.specs.Names.{ranges}
use Rattle.sheet_names.specs.LookupLaws.{length-ranges}
use Rattle.log_requests.proofs.RequestLaws.{a_request_can_be_asked}
use Rattle.plan_accounts.specs.Progress as along
use Rattle.plan_accounts.proofs.account.Goals as goal

pub loop-given-init : goal.loop-given-init
loop-given-init c = along.start _ _ _ _ _

pub enter-entered-requires : goal.enter-entered-requires
enter-entered-requires c =
    let a = c.args in
    let l = c.loop-given in
    let names = ranges a.starts.now a.stops.now 0 a.n in
    let number = length-ranges a.starts.now a.stops.now 0 a.n in
    let asked = a_request_can_be_asked true a.sheet.now names (links a.one.now a.two.now) (look a.ends.now) a.plan.now l.at in
    let here = a_line_is_on_the_sheet a.plan.now l.at (sym c.has_line.ensures ∙ c.loop-given-test.true) in (
      c.requires.0,
      subst (Asked a.n) (sym c.request_at-request.ensures) (rw number at asked),
      along.roomy _ _ _ _ _ l.invariant c.requires.2 here,
    )

pub returns-then-entered-ne0 : goal.returns-then-entered-ne0
returns-then-entered-ne0 c =
    let l = c.loop-given in
    let here = a_line_is_on_the_sheet c.args.plan.now l.at (sym c.has_line.ensures ∙ c.loop-given-test.true) in
    let entered = rw c.request_at-request.ensures at (c.enter-entered.ensures l.invariant.es l.invariant.holds) in
    rw (along.faulty_here _ _ _ _ _ l.invariant c.requires.2 here entered c.if-entered-ne0.true) (refl, refl, c.if-entered-ne0.true)

pub overflow_add-total : goal.overflow_add-total
overflow_add-total c =
    let l = c.loop-given in
    let here = a_line_is_on_the_sheet c.args.plan.now l.at (sym c.has_line.ensures ∙ c.loop-given-test.true) in
    omega (
      arith,
      (c.enter-entered.ensures l.invariant.es l.invariant.holds).limited,
      l.invariant.small,
      along.line-here _ _ _ _ _ l.invariant c.requires.2 here,
    )

pub overflow_add-i : goal.overflow_add-i
overflow_add-i c = omega (arith, along.line_low _ _ _ _ _ c.loop-given.invariant c.requires.2)

pub loop-given-smaller : goal.loop-given-smaller
loop-given-smaller c =
    let plan = c.args.plan.now in
    let l = c.loop-given in
    let there = sym c.has_line.ensures ∙ c.loop-given-test.true in
    let next : c.rest-at.result ≡ after_line plan l.at = rw c.line-line.ensures.bytes at c.rest-at.ensures ∙ after_the_end_of_a_line plan l.at l.invariant.on_plan in
    omega (arith, next, a_line_is_on_the_sheet plan l.at there, after-line-is-later plan l.at there)

pub loop-given-preserved : goal.loop-given-preserved
loop-given-preserved c =
    let plan = c.args.plan.now in
    let l = c.loop-given in
    let here = a_line_is_on_the_sheet plan l.at (sym c.has_line.ensures ∙ c.loop-given-test.true) in
    let next : c.rest-at.result ≡ after_line plan l.at = rw c.line-line.ensures.bytes at c.rest-at.ensures ∙ after_the_end_of_a_line plan l.at l.invariant.on_plan in
    let entered = rw c.request_at-request.ensures at (c.enter-entered.ensures l.invariant.es l.invariant.holds) in
    rw next (along.next _ _ _ _ _ l.invariant c.requires.2 here entered c.if-entered-ne0.false)

pub returns : goal.returns
returns c =
    let l = c.loop-given in
    rw (along.over _ _ _ _ _ l.invariant (no_line_is_on_the_sheet c.args.plan.now l.at (sym c.has_line.ensures ∙ c.loop-given-test.false)))
    (refl, l.invariant.summed, l.invariant.holds.loads)
