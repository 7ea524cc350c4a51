-- `plan_link`: the plan of two sites is ready, for either report.
use Rattle.std.proofs.Common.{◌≡◌, sym, ap, ◌∙◌}
use Rattle.model.specs.Edition.{editions}
use Rattle.report.specs.Report.{report, whole_report}
use Rattle.planner.specs.Outcome.{reporter, planned_by}
use Rattle.planner.specs.Fits.{ready_is_delivered}
use Rattle.planner.specs.Link.{the_link_is_ready, the_link_is_ready_whole, one-capacity-within}
use Rattle.planner.proofs.plan_link.Goals as goal

pub deliver_link-requires : goal.deliver_link-requires
deliver_link-requires c =
    let a = rw c.requires.1 at c.requires.0.0 in
    let within = one-capacity-within a in
    (within.0, within.1, (the_link_is_ready_whole a).writable)

pub returns-then-whole : goal.returns-then-whole
unfolding reporter
returns-then-whole c =
    let a = rw c.requires.1 at c.requires.0.0 in
    let e : whole_report ≡ reporter c.args.whole = sym (ap reporter c.if-whole.true) in
    let d = ready_is_delivered (the_link_is_ready_whole a) c.args.buf.now ∙ ap (λ text. planned_by text editions c.args.names.sheet.now c.args.buf.now) e in
    record { told = c.deliver_link.ensures.told ∙ ap (λ p. p.outcome) d; left = c.deliver_link.ensures.left ∙ ap (λ p. p.buffer) d }

pub deliver_link-requires-2 : goal.deliver_link-requires-2
deliver_link-requires-2 c =
    let a = rw c.requires.1 at c.requires.0.0 in
    let within = one-capacity-within a in
    (within.0, within.1, (the_link_is_ready a).writable)

pub returns : goal.returns
unfolding reporter
returns c =
    let a = rw c.requires.1 at c.requires.0.0 in
    let e : report ≡ reporter c.args.whole = sym (ap reporter c.if-whole.false) in
    let d = ready_is_delivered (the_link_is_ready a) c.args.buf.now ∙ ap (λ text. planned_by text editions c.args.names.sheet.now c.args.buf.now) e in
    record { told = c.deliver_link-2.ensures.told ∙ ap (λ p. p.outcome) d; left = c.deliver_link-2.ensures.left ∙ ap (λ p. p.buffer) d }
