-- `whole` meets its contract: it asks for that report.
use borrow.Author.Rules.{rules}
use Rattle.planner.specs.Outcome.{reporter}
use Rattle.planner.proofs.whole.Statement.{statement}
use Rattle.planner.proofs.whole.Tie as tie

returns : tie.Need-returns
unfolding reporter
returns c = c.before.before.report_on.ensures

pub whole_spec : {M : Type 1} → statement M
whole_spec = tie.close (tie.spec (λ c κs. search rules) (λ c. search rules) returns)
