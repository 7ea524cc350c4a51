-- `counted` meets its contract.
use mathlib.Core.Path.{sym}
use Rattle.lists.specs.Sums.{differ_same, differ-other}
use Rattle.region_links.proofs.counted.Statement.{statement}
use Rattle.region_links.proofs.counted.Tie as tie

pub counted_spec : {M : Type 1} → statement M
counted_spec = tie.close (tie.spec (λ c. sym (differ_same c.if-partner-eq0.true)) (λ c. sym (differ-other c.if-partner-eq0.false)))
