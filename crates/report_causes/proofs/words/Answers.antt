-- `words` meets its contract: one text for each number.
use Rattle.std.proofs.Common.{sym, arith}
use native.Mathlib.Decide.{ℕ_discrete}
use Rattle.lists.specs.Numbers.{pick}
use Rattle.report_causes.specs.CauseWords.{cause}
use Rattle.report_causes.specs.CauseLengths.{the_bytes_are_told, the_sites_are_told}
use Rattle.report_causes.proofs.Laws.{no_cause}
use Rattle.report_causes.proofs.words.Goals as goal

pub returns-in-1 : goal.returns-in-1
unfolding cause pick ℕ_discrete
returns-in-1 c = rw (c.in-1.is, the_bytes_are_told)

pub returns-in-2 : goal.returns-in-2
unfolding cause pick ℕ_discrete
returns-in-2 c = rw c.in-2.is

pub returns-in-4 : goal.returns-in-4
unfolding cause pick ℕ_discrete
returns-in-4 c = rw (c.in-4.is, the_sites_are_told)

pub returns-in-5 : goal.returns-in-5
unfolding cause pick ℕ_discrete
returns-in-5 c = rw c.in-5.is

pub returns-in-6 : goal.returns-in-6
unfolding cause pick ℕ_discrete
returns-in-6 c = rw c.in-6.is

pub returns-in-7 : goal.returns-in-7
unfolding cause pick ℕ_discrete
returns-in-7 c = rw c.in-7.is

pub returns-in-8 : goal.returns-in-8
unfolding cause pick ℕ_discrete
returns-in-8 c = rw c.in-8.is

pub returns-in-9 : goal.returns-in-9
unfolding cause pick ℕ_discrete
returns-in-9 c = rw c.in-9.is

pub returns-in-10 : goal.returns-in-10
unfolding cause pick ℕ_discrete
returns-in-10 c = rw c.in-10.is

pub returns-in-11 : goal.returns-in-11
unfolding cause pick ℕ_discrete
returns-in-11 c = rw c.in-11.is

pub returns-in-12 : goal.returns-in-12
unfolding cause pick ℕ_discrete
returns-in-12 c = rw c.in-12.is

pub returns-in-13 : goal.returns-in-13
unfolding cause pick ℕ_discrete
returns-in-13 c = rw c.in-13.is

pub returns-in-17 : goal.returns-in-17
unfolding cause pick ℕ_discrete
returns-in-17 c = rw c.in-17.is

pub returns-in-18 : goal.returns-in-18
unfolding cause pick ℕ_discrete
returns-in-18 c = rw c.in-18.is

pub returns-in-19 : goal.returns-in-19
unfolding cause pick ℕ_discrete
returns-in-19 c = rw c.in-19.is

-- That the number is none of those above is left to `omega`, which finds it among the facts.
pub returns-in_default : goal.returns-in_default
returns-in_default c =
    sym (no_cause c.args.number (omega arith) (omega arith) c.requires (omega arith) (omega arith) (omega arith) (omega arith) (omega arith) (omega arith) (omega arith) (omega arith) (omega arith) (omega arith) (omega arith) (omega arith) (omega arith))
