-- `Set::empty` meets its contract: no bit of a zero is set.
use Rattle.tree_sets.proofs.Words.{member-empty}
use Rattle.tree_sets.proofs.Set.empty.Statement.{statement}
use Rattle.tree_sets.proofs.Set.empty.Tie as tie

returns : tie.Need-returns
returns c = member-empty

pub empty_spec : {M : Type 1} → statement M
empty_spec = tie.close (tie.spec returns)
