-- `pairing_walk::covered` meets its contract: a terminal, or the mark of an inner site.
use mathlib.Core.Path.{sym}
use borrow.Author.Rules.{rules}
use Rattle.lists.specs.Numbers.{look}
use Rattle.lists.specs.Sums.{pick_same, pick_other}
use Rattle.pairing_walk.specs.Visits.{covered}
use Rattle.pairing_walk.proofs.covered.Statement.{statement}
use Rattle.pairing_walk.proofs.covered.Tie as tie

ended : tie.Need-returns-then-ends-v-eq1
unfolding covered
ended c = sym (pick_same c.if-ends-v-eq1.true 1 (look c.before.before.before.args.done.now c.before.before.before.args.v))

inner : tie.Need-returns
unfolding covered
inner c = let s = c.before.before.before.before in sym (pick_other c.before.if-ends-v-eq1.false 1 (look s.args.done.now s.args.v))

pub covered_spec : {M : Type 1} → statement M
covered_spec = tie.close (tie.spec (λ c. search rules) ended (λ c. search rules) inner)
