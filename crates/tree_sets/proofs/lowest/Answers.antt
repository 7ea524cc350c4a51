-- The walk at the lowest member: the trailing zeros lead to it.
use Rattle.std.proofs.Common.{refl}
use Rattle.tree_sets.specs.Walks.{lowest}
use Rattle.tree_sets.proofs.lowest.Goals as goal

pub returns : goal.returns
unfolding lowest
returns c = refl
