-- `put_number` meets its contract: digits in pieces and the byte behind them, or none of it, or one after the other.
use Rattle.std.proofs.Common.{[], ◌∷◌, ◌++◌, refl, sym, length-append, arith}
use Rattle.text_writers.specs.Fields.{decimal}
use Rattle.text_writers.specs.Decimal.{decimal-within}
use Rattle.text_writers.specs.Writing.{then, same_size, sets_out}
use Rattle.text_writers.proofs.put_number.Goals as goal

pub bounds-buf-next : goal.bounds-buf-next
bounds-buf-next c = omega (arith, same_size c.put_small-next.ensures, decimal-within 7 c.args.n (omega arith))

pub returns-then-at-buf : goal.returns-then-at-buf
returns-then-at-buf c = then c.put_small-next.ensures (record { next = refl; stored = refl })

pub returns-then-buf-at : goal.returns-then-buf-at
returns-then-buf-at c =
    let text = decimal c.args.n ++ (c.args.stop ∷ []) in
    record {
      next = omega (arith, length-append (decimal c.args.n) (c.args.stop ∷ []));
      stored = sym (sets_out text c.args.buf.now c.args.at (omega arith));
    }
