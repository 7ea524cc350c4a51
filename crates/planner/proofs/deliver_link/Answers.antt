-- `deliver_link`: the lists are those of the plan of two sites.
use Rattle.planner.proofs.deliver_link.Goals as goal

pub deliver-requires : goal.deliver-requires
deliver-requires c = rw c.pair_of-pairs.ensures c.requires.2

pub returns : goal.returns
returns c = rw c.pair_of-pairs.ensures at c.deliver.ensures
