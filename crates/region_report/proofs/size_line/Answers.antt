-- `size_line` meets its contract: its four fields, piece by piece; a line has at most 60 bytes.
use Rattle.std.proofs.Common.{[], ◌∷◌, ap, length, length-append, arith}
use Rattle.text_writers.specs.Decimal.{decimal-length}
use Rattle.text_writers.specs.Fields.{decimal}
use Rattle.text_writers.specs.Writing.{then}
use Rattle.region_report.specs.Laws.{pieces, line_is_short}
use Rattle.region_report.proofs.size_line.Goals as goal

pub put_number-requires : goal.put_number-requires
put_number-requires c = omega (
  arith,
  c.requires,
  c.put_letter-letter.ensures.next,
  c.put_bytes-name.ensures.next,
  c.put_bytes-next.ensures.next,
  length-append c.args.first.now (9 ∷ []),
  length-append c.args.second.now (9 ∷ []),
  length-append (decimal c.args.size) (10 ∷ []),
  decimal-length c.args.size (omega arith),
)

pub returns : goal.returns
returns c =
    let a = c.args in
    let e = then c.put_letter-letter.ensures (then c.put_bytes-name.ensures (then c.put_bytes-next.ensures c.put_number.ensures)) in (
      rw (pieces a.first.now a.second.now a.size) at e,
      omega (
        arith,
        e.next,
        ap length (pieces a.first.now a.second.now a.size),
        line_is_short a.first.now a.second.now a.size c.requires.0 c.requires.1 (omega arith),
      ),
    )
