-- `plan_tree`: a network of two sites by its link, any other by its chart.
use Rattle.std.proofs.Common.{◌≡◌, sym, ap, ◌∙◌}
use Rattle.model.specs.Edition.{editions}
use Rattle.report.specs.Report.{report, whole_report}
use Rattle.planner.specs.Outcome.{reporter, planned_by}
use Rattle.planner.proofs.plan_tree.Goals as goal

pub whole_charted-requires : goal.whole_charted-requires
whole_charted-requires c = rw c.chart_of-chart.ensures c.requires

pub returns-then-whole : goal.returns-then-whole
unfolding reporter
returns-then-whole c =
    let e : whole_report ≡ reporter c.args.whole = sym (ap reporter c.if-whole.true) in
    record {
      told = c.whole_charted.ensures.told ∙ ap (λ text. (planned_by text editions c.args.names.sheet.now c.args.report.now).outcome) e;
      left = c.whole_charted.ensures.left ∙ ap (λ text. (planned_by text editions c.args.names.sheet.now c.args.report.now).buffer) e;
    }

pub plan_charted-requires : goal.plan_charted-requires
plan_charted-requires c = rw c.chart_of-chart.ensures c.requires

pub returns : goal.returns
unfolding reporter
returns c =
    let e : report ≡ reporter c.args.whole = sym (ap reporter c.if-whole.false) in
    record {
      told = c.plan_charted.ensures.told ∙ ap (λ text. (planned_by text editions c.args.names.sheet.now c.args.report.now).outcome) e;
      left = c.plan_charted.ensures.left ∙ ap (λ text. (planned_by text editions c.args.names.sheet.now c.args.report.now).buffer) e;
    }
