-- `write_words` meets its contract: the words of the plan, or those of the sheet.
use Rattle.std.proofs.Common.{List, ℕ}
use Rattle.lists.specs.Sums.{pick_same, pick_other}
use Rattle.plan_words.specs.PlanWords.{words_judged}
use Rattle.plan_words.proofs.write_words.Goals as goal

pub returns-then-text-eq2 : goal.returns-then-text-eq2
unfolding words_judged
returns-then-text-eq2 c = rw (pick_same {A = List ℕ} c.if-text-eq2.true) c.put_plan.ensures

pub returns : goal.returns
unfolding words_judged
returns c = rw (pick_other {A = List ℕ} c.if-text-eq2.false) c.write_words_of.ensures
