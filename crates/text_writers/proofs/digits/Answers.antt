-- `digits` meets its contract: a number has one digit more than a tenth of it, and a machine number has few.
use Rattle.std.proofs.Common.{◌≡◌, length, arith}
use Rattle.text_writers.specs.Fields.{decimal}
use Rattle.text_writers.specs.Decimal.{decimal_small, decimal-length, decimal_shorter, decimal-some}
use Rattle.text_writers.proofs.digits.Goals as goal

pub loop-rest-init : goal.loop-rest-init
loop-rest-init c = (omega arith, decimal-length c.args.n (omega arith))

pub overflow_add-many : goal.overflow_add-many
overflow_add-many c = omega (arith, decimal-some c.loop-rest.rest)

pub loop-rest-preserved : goal.loop-rest-preserved
loop-rest-preserved c = (omega (arith, decimal_shorter c.loop-rest.rest (omega arith)), c.loop-rest.invariant.1)

pub returns : goal.returns
returns c =
    let one : length (decimal c.loop-rest.rest) ≡ 1 = rw (decimal_small c.loop-rest.rest (omega arith)) in
    omega (arith, c.loop-rest.invariant.0)
