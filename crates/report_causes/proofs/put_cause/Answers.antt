-- `put_cause` meets its contract: the words for 3 end with a limit.
use native.Mathlib.Decide.{ℕ_discrete}
use Rattle.lists.specs.Numbers.{pick}
use Rattle.report_causes.specs.CauseWords.{cause}
use Rattle.report_causes.proofs.put_cause.Goals as goal

pub put_limit-requires : goal.put_limit-requires
unfolding cause pick ℕ_discrete
put_limit-requires c = rw c.in-3.is at c.requires

pub returns-in-3 : goal.returns-in-3
unfolding cause pick ℕ_discrete
returns-in-3 c = rw c.in-3.is c.put_limit.ensures
