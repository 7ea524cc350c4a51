-- `put_whole` meets its contract: one text for each number.
use Rattle.std.proofs.Common.{◌≢◌, List, ℕ, arith}
use native.Mathlib.Decide.{ℕ_discrete}
use Rattle.lists.specs.Numbers.{pick}
use Rattle.lists.specs.Sums.{pick_other}
use Rattle.plan_words.specs.PlanWords.{plan_whole, the_limits_are_told}
use Rattle.plan_words.proofs.put_whole.Goals as goal

pub returns-in-1 : goal.returns-in-1
unfolding plan_whole pick ℕ_discrete
returns-in-1 c = rw (c.in-1.is, the_limits_are_told) c.put_bytes.ensures

pub returns-in_default : goal.returns-in_default
unfolding plan_whole
returns-in_default c = let other : c.args.number ≢ 1 = omega arith in rw (pick_other {A = List ℕ} other) c.put_bytes-in_default.ensures
