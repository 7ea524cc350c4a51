-- `put_long_log` meets its contract: five pieces, one after the other, each of which is short.
use Rattle.std.proofs.Common.{[], ◌∷◌, ◌++◌, ℕ, ◌^◌, ◌≤◌, ◌<◌, length, length-append, arith}
use Rattle.model.specs.Limits.{LOGBYTES, LOGLINES}
use Rattle.text_commas.specs.Commas.{grouped}
use Rattle.text_commas.specs.CommaLaws.{grouped-length}
use Rattle.text_writers.specs.Writing.{then}
use Rattle.report_words.specs.TwoTexts.{log_long}
use Rattle.report_words.proofs.put_long_log.Goals as goal

-- a number and its space
short : (n : ℕ) → n < 2 ^ 64 → length (grouped n ++ (32 ∷ [])) ≤ 29
short n h = omega (arith, length-append (grouped n) (32 ∷ []), grouped-length n h)

pub put_grouped-bytes-requires : goal.put_grouped-bytes-requires
put_grouped-bytes-requires c = omega (arith, c.put_part-at.ensures.next, short LOGBYTES (omega arith))

pub put_part-or-requires : goal.put_part-or-requires
put_part-or-requires c = omega (arith, c.put_part-at.ensures.next, c.put_grouped-bytes.ensures.next, short LOGBYTES (omega arith))

pub put_grouped-lines-requires : goal.put_grouped-lines-requires
put_grouped-lines-requires c = omega (
  arith,
  c.put_part-at.ensures.next,
  c.put_grouped-bytes.ensures.next,
  c.put_part-or.ensures.next,
  short LOGBYTES (omega arith),
  short LOGLINES (omega arith),
)

pub put_bytes-requires : goal.put_bytes-requires
put_bytes-requires c = omega (
  arith,
  c.put_part-at.ensures.next,
  c.put_grouped-bytes.ensures.next,
  c.put_part-or.ensures.next,
  c.put_grouped-lines.ensures.next,
  short LOGBYTES (omega arith),
  short LOGLINES (omega arith),
)

pub returns : goal.returns
unfolding log_long
returns c =
    then c.put_part-at.ensures
    (then c.put_grouped-bytes.ensures (then c.put_part-or.ensures (then c.put_grouped-lines.ensures c.put_bytes.ensures)))
