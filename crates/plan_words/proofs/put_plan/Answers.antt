-- `put_plan` meets its contract: the plan as a whole, or the number of a line and what is wrong with it.
use Rattle.std.proofs.Common.{List, ℕ, arith}
use Rattle.lists.specs.Sums.{pick_same, pick_other}
use Rattle.text_writers.specs.Writing.{then}
use Rattle.plan_words.specs.PlanWords.{plan_words, number_and_colon}
use Rattle.plan_words.proofs.put_plan.Goals as goal

pub returns-then-line-eq0 : goal.returns-then-line-eq0
unfolding plan_words
returns-then-line-eq0 c = rw (pick_same {A = List ℕ} c.if-line-eq0.true) c.put_whole.ensures

pub put_number-next-requires : goal.put_number-next-requires
put_number-next-requires c = omega (arith, c.put_part-word.ensures.next, number_and_colon c.args.line (omega arith))

pub put_part-at-requires : goal.put_part-at-requires
put_part-at-requires c = omega (arith, c.put_part-word.ensures.next, c.put_number-next.ensures.next, number_and_colon c.args.line (omega arith))

pub put_plan_cause-requires : goal.put_plan_cause-requires
put_plan_cause-requires c = omega (
  arith,
  c.put_part-word.ensures.next,
  c.put_number-next.ensures.next,
  c.put_part-at.ensures.next,
  number_and_colon c.args.line (omega arith),
)

pub returns : goal.returns
unfolding plan_words
returns c =
    rw (pick_other {A = List ℕ} c.if-line-eq0.false)
    (then c.put_part-word.ensures (then c.put_number-next.ensures (then c.put_part-at.ensures c.put_plan_cause.ensures)))
