-- `put_two_digits` meets its contract.
use Rattle.std.proofs.Common.{◌≡◌, ◌/◌, ◌%◌, add-one, arith}
use Rattle.text_writers.specs.Fields.{padded}
use Rattle.text_writers.proofs.put_two_digits.Goals as goal

pub returns : goal.returns
unfolding padded
returns c =
    let tens : c.args.n / 10 % 10 ≡ c.args.n / 10 = omega arith in
    rw (tens, add-one)
