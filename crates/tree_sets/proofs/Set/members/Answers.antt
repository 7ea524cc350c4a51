-- All members of a set are those of its words.
use Rattle.tree_sets.proofs.Steps.{still_whole}
use Rattle.tree_sets.proofs.Set.members.Goals as goal

pub returns : goal.returns
returns c = still_whole c.args.self.now.words
