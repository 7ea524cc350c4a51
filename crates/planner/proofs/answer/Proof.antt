-- `answer` meets its contract: it asks for the report in halves.
use borrow.Author.Rules.{rules}
use Rattle.planner.specs.Outcome.{reporter}
use Rattle.planner.proofs.answer.Statement.{statement}
use Rattle.planner.proofs.answer.Tie as tie

returns : tie.Need-returns
unfolding reporter
returns c = c.before.before.answer_on.ensures

pub answer_spec : {M : Type 1} → statement M
answer_spec = tie.close (tie.spec (λ c κs. search rules) (λ c. search rules) returns)
