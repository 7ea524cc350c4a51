-- `answer_on` meets its contract: a report as it stands, or the line of the refusal.
use Rattle.std.proofs.Common.{sym, ap, ◌∙◌}
use Rattle.planner.specs.Outcome.{reporter}
use Rattle.planner.specs.Answers.{a_report_is_within_the_buffer, a_report_is_printed, a_refusal_is_printed, a_refusal_is_within_the_buffer}
use Rattle.planner.proofs.answer_on.Goals as goal

pub returns-in-Ok : goal.returns-in-Ok
returns-in-Ok c =
    let p = c.in-Ok.ensures in
    let text = reporter c.args.whole in
    let a = a_report_is_printed text c.args.sheet.now c.args.buf.now _ (sym p.told) in
    record {
      told = sym (ap (λ x. x.length) a);
      left = p.left ∙ sym (ap (λ x. x.buffer) a);
      within = λ h. rw p.left (a_report_is_within_the_buffer text c.args.sheet.now c.args.buf.now _ (sym p.told));
    }

pub returns-in-Err : goal.returns-in-Err
returns-in-Err c =
    let p = c.in-Err.ensures in
    let text = reporter c.args.whole in
    let w = c.write_refusal.ensures in
    let v = rw p.left at w.0 in
    let a = a_refusal_is_printed text c.args.sheet.now c.args.buf.now _ (sym p.told) _ _ v in
    record {
      told = sym (ap (λ x. x.length) a);
      left = sym (ap (λ x. x.buffer) a);
      within = a_refusal_is_within_the_buffer text c.args.sheet.now c.args.buf.now _ (sym p.told) _ _ v w.1;
    }
