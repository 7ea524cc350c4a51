-- `pair_of` meets its contract: no pair for capacity 0, else one.
use mathlib.Core.Path.{refl}
use borrow.Author.Rules.{rules}
use Rattle.theory_link.specs.TwoSites.{one-pair}
use Rattle.theory_link.proofs.TwoSites.{no_pair_lem}
use Rattle.pairing_walk.specs.Visits.{listing}
use Rattle.planner.proofs.pair_of.Statement.{statement}
use Rattle.planner.proofs.pair_of.Tie as tie

returns : tie.Need-returns-then-capacity-eq0
unfolding listing
returns c = rw (c.if-capacity-eq0.true, no_pair_lem) refl

returns-2 : tie.Need-returns
unfolding listing
returns-2 c = rw (one-pair c.before.args.capacity c.if-capacity-eq0.false) refl

pub pair_of_spec : {M : Type 1} → statement M
pair_of_spec = tie.close (tie.spec returns (λ c. search rules) (λ c. search rules) returns-2)
