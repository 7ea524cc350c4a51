-- `write_refusal` meets its contract: a word, and two machine numbers, which are short.
use Rattle.std.proofs.Common.{arith}
use Rattle.text_writers.specs.Writing.{line_ended, first_field}
use Rattle.report.specs.Report.{refusal_line}
use Rattle.report.proofs.Writing.{two_numbers}
use Rattle.report.proofs.write_refusal.Goals as goal

pub put_numbers-requires : goal.put_numbers-requires
put_numbers-requires c = omega (arith, c.put_bytes-word.ensures.next, two_numbers c.args.number c.args.line (omega arith) (omega arith))

pub returns : goal.returns
unfolding refusal_line
returns c = (
  line_ended _ _ _ (first_field _ c.put_bytes-word.ensures) c.put_numbers.ensures,
  omega (arith, c.put_bytes-word.ensures.next, c.put_numbers.ensures.next, two_numbers c.args.number c.args.line (omega arith) (omega arith)),
)
