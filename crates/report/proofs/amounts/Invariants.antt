-- The sum of the amounts of the first pairs.
use Rattle.std.proofs.Common.{◌≡◌, take}
use Rattle.model.specs.Flows.{total}
use Rattle.report.proofs.amounts.Given as goal

abbrev pub invariant-loop-pair : goal.invariant-loop-pair
invariant-loop-pair l = l.sum ≡ total (take l.pair-index l.pairs)
