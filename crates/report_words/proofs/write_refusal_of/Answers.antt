-- `write_refusal_of` meets its contract: four fields. A machine number has at most 20 digits, so the line is short.
use Rattle.std.proofs.Common.{[], ◌∷◌, ◌++◌, ℕ, ◌^◌, ◌≤◌, ◌<◌, length, length-append, arith}
use Rattle.text_writers.specs.Decimal.{decimal-length}
use Rattle.text_writers.specs.Fields.{decimal}
use Rattle.text_writers.specs.Writing.{first_field, next_field, line_ended}
use Rattle.report_words.specs.TwoTexts.{refusal_of, two_numbers}
use Rattle.report_words.proofs.write_refusal_of.Goals as goal

-- a number and its tab
short : (n : ℕ) → n < 2 ^ 64 → length (decimal n ++ (9 ∷ [])) ≤ 21
short n h = omega (arith, length-append (decimal n) (9 ∷ []), decimal-length n h)

pub put_number-next-requires : goal.put_number-next-requires
put_number-next-requires c = omega (arith, c.put_bytes-word.ensures.next, short c.args.text (omega arith))

pub put_numbers-requires : goal.put_numbers-requires
put_numbers-requires c = omega (
  arith,
  c.put_bytes-word.ensures.next,
  c.put_number-next.ensures.next,
  short c.args.text (omega arith),
  two_numbers c.args.number c.args.line (omega arith) (omega arith),
)

pub returns : goal.returns
unfolding refusal_of
returns c = (
  line_ended _ _ _ (next_field _ _ (first_field _ c.put_bytes-word.ensures) c.put_number-next.ensures) c.put_numbers.ensures,
  omega (
    arith,
    c.put_bytes-word.ensures.next,
    c.put_number-next.ensures.next,
    c.put_numbers.ensures.next,
    short c.args.text (omega arith),
    two_numbers c.args.number c.args.line (omega arith) (omega arith),
  ),
)
