-- `goal_of` meets its contract, by its test.
use mathlib.Core.Path.{sym}
use Rattle.lists.specs.Sums.{pick_same, pick_other}
use Rattle.whole_notes.proofs.goal_of.Statement.{statement}
use Rattle.whole_notes.proofs.goal_of.Tie as tie

pub goal_of_spec : {M : Type 1} → statement M
goal_of_spec = tie.close (tie.spec (λ c. sym (pick_same c.if-terminal-eq1.true _ _)) (λ c. sym (pick_other c.if-terminal-eq1.false _ _)))
