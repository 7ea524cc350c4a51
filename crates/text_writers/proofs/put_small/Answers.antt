-- `put_small` meets its contract: the digits of the high part, and four of the low part.
use Rattle.std.proofs.Common.{◌/◌, ◌%◌, arith}
use Rattle.text_writers.specs.Decimal.{decimal-within}
use Rattle.text_writers.specs.Writing.{same_size, digits_behind}
use Rattle.text_writers.proofs.put_small.Goals as goal

pub put_four_digits-requires : goal.put_four_digits-requires
put_four_digits-requires c = (omega arith, omega (arith, same_size c.put_short-next.ensures, decimal-within 3 (c.args.n / 10000) (omega arith)))

pub overflow_add-result : goal.overflow_add-result
overflow_add-result c = omega (arith, decimal-within 3 (c.args.n / 10000) (omega arith))

pub returns : goal.returns
returns c =
    digits_behind 4 c.args.n (c.args.n / 10000) (c.args.n % 10000) (omega arith) (omega arith) (omega arith)
    c.put_short-next.ensures c.put_four_digits.ensures
