-- `put_digits` meets its contract. The last digit is the byte that ends the digits before it.
use Rattle.std.proofs.Common.{[], ◌∷◌, ◌++◌, ◌+◌, ◌/◌, ◌%◌, arith}
use Rattle.text_writers.specs.Fields.{decimal}
use Rattle.text_writers.specs.Decimal.{decimal_small, decimal_large}
use Rattle.text_writers.specs.Writing.{then, room_front, room_after}
use Rattle.text_writers.proofs.+put_digits.Goals as goal

pub put_letter-requires : goal.put_letter-requires
put_letter-requires t c = rw (decimal_small c.args.n (omega arith)) at c.requires

pub returns-then-n-lt10 : goal.returns-then-n-lt10
returns-then-n-lt10 t c = rw (decimal_small c.args.n (omega arith)) c.put_letter.ensures

pub put_digits-next-requires : goal.put_digits-next-requires
put_digits-next-requires t c =
    let high = decimal (c.args.n / 10) ++ ((48 + c.args.n % 10) ∷ []) in
    (omega arith, room_front c.args.at high (c.args.stop ∷ []) (rw (decimal_large c.args.n (omega arith)) at c.requires))

pub put_byte-requires : goal.put_byte-requires
put_byte-requires t c = room_after c.put_digits-next.ensures (c.args.stop ∷ []) (rw (decimal_large c.args.n (omega arith)) at c.requires)

pub returns : goal.returns
returns t c = rw (decimal_large c.args.n (omega arith)) (then c.put_digits-next.ensures c.put_byte.ensures)
