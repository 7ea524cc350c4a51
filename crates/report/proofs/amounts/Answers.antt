-- `amounts` meets its contract: a turn adds the amount of one pair more, and no part of the sum is above the whole.
use Rattle.std.proofs.Common.{◌+◌, ap, ◌∙◌, length, take_all, arith}
use Rattle.model.specs.Flows.{total}
use Rattle.report.proofs.Totals.{total_none, total-next, total-part}
use Rattle.report.proofs.amounts.Goals as goal

pub loop-pair-init : goal.loop-pair-init
loop-pair-init c = total_none

pub overflow_add-sum : goal.overflow_add-sum
overflow_add-sum c =
    let pairs = c.args.pairs.now in
    let i = c.loop-pair.pair-index in
    omega (arith, c.loop-pair.invariant, total-next pairs i (omega arith), total-part pairs (i + 1) (length pairs) (omega arith), ap total (take_all (length pairs) pairs (omega arith)))

pub loop-pair-preserved : goal.loop-pair-preserved
loop-pair-preserved c = omega (arith, c.loop-pair.invariant, total-next c.args.pairs.now c.loop-pair.pair-index (omega arith))

pub returns : goal.returns
returns c = c.loop-pair.invariant ∙ ap total (take_all c.loop-pair.pair-index c.args.pairs.now (omega arith))
