-- `put_short` meets its contract, for each count of digits.
use Rattle.std.proofs.Common.{◌/◌, ◌%◌, arith}
use Rattle.text_writers.specs.Writing.{one_digit, all_digits, digits_behind}
use Rattle.text_writers.proofs.put_short.Goals as goal

pub returns-then-n-lt10 : goal.returns-then-n-lt10
returns-then-n-lt10 c = one_digit c.args.buf.now c.args.at c.args.n (omega arith)

pub returns-then-n-lt100 : goal.returns-then-n-lt100
returns-then-n-lt100 c = all_digits c.args.at 1 c.args.n (omega arith) (omega arith) c.put_two_digits.ensures

pub returns-then-n-lt1000 : goal.returns-then-n-lt1000
returns-then-n-lt1000 c =
    let hundreds = one_digit c.args.buf.now c.args.at (c.args.n / 100) (omega arith) in
    digits_behind 2 c.args.n (c.args.n / 100) (c.args.n % 100) (omega arith) (omega arith) (omega arith)
    hundreds c.put_two_digits-then-n-lt1000.ensures

pub returns : goal.returns
returns c = all_digits c.args.at 3 c.args.n (omega arith) (omega arith) c.put_four_digits.ensures
