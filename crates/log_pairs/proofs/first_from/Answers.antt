-- `first_from`: the place looked at has the number, or one place more has not.
use Rattle.std.proofs.Common.{arith}
use Rattle.lists.specs.Sums.{same?}
use Rattle.log_pairs.proofs.first_from.Goals as goal

pub loop-i-init : goal.loop-i-init
loop-i-init c = λ k a l. absurd (omega arith)

pub returns-then-pairs-i : goal.returns-then-pairs-i
returns-then-pairs-i c = (omega arith, record { within = omega arith; there = λ l. c.if-pairs-i.true; before = c.loop-i.invariant })

pub loop-i-preserved : goal.loop-i-preserved
loop-i-preserved c = λ k a l. same? k c.loop-i.i (λ e p. c.if-pairs-i.false (rw e at p)) (λ d. c.loop-i.invariant k a (omega arith))

pub returns : goal.returns
returns c = record { within = omega arith; there = λ l. absurd (omega arith); before = λ i a l. c.loop-i.invariant i a (omega arith) }
