-- `write_verdict` meets its contract: two fields, and `yes` or `no`. A machine number has at most 20 digits, so the line is short.
use Rattle.std.proofs.Common.{arith}
use Rattle.text_writers.specs.Writing.{first_field, next_field, line_ended, last_field_lem}
use Rattle.plan_words.specs.PlanWords.{verdict_line, number_and_tab}
use Rattle.plan_words.proofs.write_verdict.Goals as goal

pub put_number-next-requires : goal.put_number-next-requires
put_number-next-requires c = omega (arith, c.put_bytes-word.ensures.next, number_and_tab c.args.total (omega arith))

pub put_bytes-requires : goal.put_bytes-requires
put_bytes-requires c = omega (arith, c.put_bytes-word.ensures.next, c.put_number-next.ensures.next, number_and_tab c.args.total (omega arith))

pub returns-then-yes : goal.returns-then-yes
unfolding verdict_line
returns-then-yes c =
    rw c.if-yes.true (
      line_ended _ _ _ (next_field _ _ (first_field _ c.put_bytes-word.ensures) c.put_number-next.ensures) (last_field_lem _ c.put_bytes.ensures),
      omega (arith, c.put_bytes-word.ensures.next, c.put_number-next.ensures.next, c.put_bytes.ensures.next, number_and_tab c.args.total (omega arith)),
    )

pub put_bytes-requires-2 : goal.put_bytes-requires-2
put_bytes-requires-2 c = omega (arith, c.put_bytes-word.ensures.next, c.put_number-next.ensures.next, number_and_tab c.args.total (omega arith))

pub returns : goal.returns
unfolding verdict_line
returns c =
    rw c.if-yes.false (
      line_ended _ _ _ (next_field _ _ (first_field _ c.put_bytes-word.ensures) c.put_number-next.ensures) (last_field_lem _ c.put_bytes-2.ensures),
      omega (arith, c.put_bytes-word.ensures.next, c.put_number-next.ensures.next, c.put_bytes-2.ensures.next, number_and_tab c.args.total (omega arith)),
    )
