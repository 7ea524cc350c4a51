-- `judge` meets its contract: a refusal of the reading is passed on as one of text 1, and over an accepted sheet's network the plan is judged.
use Rattle.std.specs.Prelude.{Err}
use Rattle.std.proofs.Common.{sym, ap, ◌∙◌}
use Rattle.planner.specs.Taken.{accepted_is_listed}
use Rattle.verdicts.proofs.OverNetwork.{refused_is_told}
use Rattle.verdicts.proofs.judge.Goals as goal

pub judge_network-requires : goal.judge_network-requires
judge_network-requires c = accepted_is_listed _ _ (sym c.in-Ok.is ∙ c.read.ensures)

pub returns-in-Err : goal.returns-in-Err
returns-in-Err c = ap Err c.in_text.ensures ∙ sym (refused_is_told c.args.sheet.now c.args.plan.now _ (sym c.in-Err.is ∙ c.read.ensures))
