-- `store_sums` meets its contract: two sums, or nothing.
use Rattle.std.proofs.Common.{sym, ap}
use Rattle.packing.specs.Packed.{sums_after}
use Rattle.packing.proofs.store_sums.Goals as goal

pub returns-in-Ok : goal.returns-in-Ok
unfolding sums_after
returns-in-Ok c = sym (ap (λ o. sums_after o c.args.sums.now) c.in-Ok.is)

pub returns-in_default : goal.returns-in_default
unfolding sums_after
returns-in_default c = sym (ap (λ o. sums_after o c.args.sums.now) c.in_default.is)
