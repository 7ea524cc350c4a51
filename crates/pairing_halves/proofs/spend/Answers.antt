-- `spend`: the entry there is spent, or has more.
use Rattle.std.proofs.Common.{sym}
use Rattle.lists.specs.Sums.{pick_same, pick_other}
use Rattle.pairing_halves.specs.Arrays.{onward}
use Rattle.pairing_halves.proofs.spend.Goals as goal

pub returns-then-gone-amount : goal.returns-then-gone-amount
unfolding onward
returns-then-gone-amount c = sym (pick_same c.if-gone-amount.true _ _)

pub returns : goal.returns
unfolding onward
returns c = sym (pick_other c.if-gone-amount.false _ _)
