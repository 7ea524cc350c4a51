-- `answer_lines`: each line takes the replay from its offset to the next one.
use Rattle.std.proofs.Common.{true, false, ◌≡◌, List, ℕ, ◌<◌, length, sym, ◌∙◌, arith}
use Rattle.std.proofs.Math.Path.{subst}
use Rattle.lists.specs.Numbers.{look}
use Rattle.tree.specs.Offer.{links}
use Rattle.text_lines.specs.Lines.{after_line, has_line}
use Rattle.text_lines.specs.LineLaws.{a_line_is_on_the_sheet, no_line_is_on_the_sheet, after-line-is-later, after_the_end_of_a_line}
use Rattle.sheet_names.specs.Names.{ranges}
use Rattle.sheet_names.specs.LookupLaws.{length-ranges}
use Rattle.model.specs.Booking.{Asked}
use Rattle.log_requests.proofs.RequestLaws.{a_request_can_be_asked}
use Rattle.logs.specs.Progress as along
use Rattle.logs.proofs.answer_lines.Goals as goal

pub loop-pairs-init : goal.loop-pairs-init
loop-pairs-init c = along.start _ _ _ _ _ _ _ c.new-pairs.result c.new-pairs.ensures

pub step-requires : goal.step-requires
step-requires c =
    let a = c.args in
    let names = ranges a.starts.now a.stops.now 0 a.n in
    let number = length-ranges a.starts.now a.stops.now 0 a.n in
    let asked = a_request_can_be_asked false a.sheet.now names (links a.one.now a.two.now) (look a.ends.now) a.log.now c.loop-pairs.at in (
      c.requires.0,
      subst (Asked a.n) (sym c.request_at-request.ensures) (rw number at asked),
      rw number at (along.standing _ _ _ _ _ _ _ c.loop-pairs.invariant),
    )

pub bounds-list-i : goal.bounds-list-i
bounds-list-i c =
    let log = c.args.log.now in
    let l = c.loop-pairs in
    let here = a_line_is_on_the_sheet log l.at (sym c.has_line.ensures ∙ c.loop-pairs-test.true) in
    omega (arith, along.room _ _ _ _ _ _ _ l.invariant c.requires.2 here, along.same_length _ _ _ _ _ _ _ l.invariant c.requires.2)

pub loop-pairs-smaller : goal.loop-pairs-smaller
loop-pairs-smaller c =
    let log = c.args.log.now in
    let l = c.loop-pairs in
    let there = sym c.has_line.ensures ∙ c.loop-pairs-test.true in
    let next : c.rest-at.result ≡ after_line log l.at = rw c.line-line.ensures.bytes at c.rest-at.ensures ∙ after_the_end_of_a_line log l.at l.invariant.on_log in
    omega (arith, next, a_line_is_on_the_sheet log l.at there, after-line-is-later log l.at there)

pub loop-pairs-preserved : goal.loop-pairs-preserved
loop-pairs-preserved c =
    let log = c.args.log.now in
    let l = c.loop-pairs in
    let here = a_line_is_on_the_sheet log l.at (sym c.has_line.ensures ∙ c.loop-pairs-test.true) in
    let next : c.rest-at.result ≡ after_line log l.at = rw c.line-line.ensures.bytes at c.rest-at.ensures ∙ after_the_end_of_a_line log l.at l.invariant.on_log in
    rw next (along.next _ _ _ _ _ _ _ l.invariant c.requires.2 here (rw c.request_at-request.ensures at c.step.ensures))

pub returns : goal.returns
returns c =
    let log = c.args.log.now in
    let l = c.loop-pairs in
    along.over _ _ _ _ _ _ _ l.invariant (no_line_is_on_the_sheet log l.at (sym c.has_line.ensures ∙ c.loop-pairs-test.false))
