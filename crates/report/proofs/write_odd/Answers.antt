-- `write_odd` meets its contract: a letter, and the number. A machine number has at most 20 digits, so the line is short.
use Rattle.std.proofs.Common.{[], ◌∷◌, ◌++◌, ℕ, ◌^◌, ◌≤◌, ◌<◌, length, length-append, arith}
use Rattle.text_writers.specs.Fields.{decimal}
use Rattle.text_writers.specs.Decimal.{decimal-length}
use Rattle.text_writers.specs.Writing.{line_ended, first_field, last_field_lem}
use Rattle.report.specs.Report.{odd_line}
use Rattle.report.proofs.write_odd.Goals as goal

-- the number and its line feed
short : (k : ℕ) → k < 2 ^ 64 → length (decimal k ++ (10 ∷ [])) ≤ 21
short k h = omega (arith, length-append (decimal k) (10 ∷ []), decimal-length k h)

pub put_number-requires : goal.put_number-requires
put_number-requires c = omega (arith, c.put_letter-next.ensures.next, short c.args.count (omega arith))

pub returns : goal.returns
unfolding odd_line
returns c = (
  line_ended _ _ _ (first_field _ c.put_letter-next.ensures) (last_field_lem _ c.put_number.ensures),
  omega (arith, c.put_letter-next.ensures.next, c.put_number.ensures.next, short c.args.count (omega arith)),
)
