-- `child_of`: the link to the child, and what twice its capacity is parted into.
use Rattle.pairing_walk.proofs.child_of.Goals as goal

pub returns : goal.returns
returns c = cc c.min-up.ensures
