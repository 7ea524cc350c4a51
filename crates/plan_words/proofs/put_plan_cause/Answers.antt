-- `put_plan_cause` meets its contract: one text for each number.
use Rattle.std.proofs.Common.{[], ◌∷◌, length-append, arith}
use native.Mathlib.Decide.{ℕ_discrete}
use Rattle.lists.specs.Numbers.{pick}
use Rattle.report_causes.specs.CauseWords.{cause}
use Rattle.report_causes.specs.CauseLengths.{cause-length}
use Rattle.plan_words.specs.PlanWords.{plan_cause, the_amount_is_told, as_everywhere}
use Rattle.plan_words.proofs.put_plan_cause.Goals as goal

pub returns-in-2 : goal.returns-in-2
unfolding plan_cause pick ℕ_discrete
returns-in-2 c = rw c.in-2.is c.put_bytes.ensures

pub returns-in-3 : goal.returns-in-3
unfolding plan_cause pick ℕ_discrete
returns-in-3 c = rw (c.in-3.is, the_amount_is_told) c.put_bytes-in-3.ensures

pub returns-in-6 : goal.returns-in-6
unfolding plan_cause pick ℕ_discrete
returns-in-6 c = rw c.in-6.is c.put_bytes-in-6.ensures

pub returns-in-20 : goal.returns-in-20
unfolding plan_cause pick ℕ_discrete
returns-in-20 c = rw c.in-20.is c.put_bytes-in-20.ensures

pub put_cause-requires : goal.put_cause-requires
put_cause-requires c = omega (arith, length-append (cause c.args.number) (10 ∷ []), cause-length c.args.number)

-- That the number is none of those above is left to `omega`, which finds it among the facts.
pub returns-in_default : goal.returns-in_default
returns-in_default c = rw (as_everywhere c.args.number (omega arith) (omega arith) (omega arith) (omega arith)) c.put_cause.ensures
