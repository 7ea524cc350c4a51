-- `order_of` meets its contract: `take_all` takes the sites from the keys.
use Rattle.std.proofs.Common.{refl, arith}
use Rattle.tree_order.proofs.order_of.Goals as goal

pub keys_of-requires : goal.keys_of-requires
keys_of-requires c = (rw c.requires.0.firsts at c.requires.0, omega (arith, c.requires))

pub take_all-requires : goal.take_all-requires
take_all-requires c = (c.requires.0, c.requires.1, c.keys_of.ensures, refl)

pub returns-then-not-take_all : goal.returns-then-not-take_all
returns-then-not-take_all c = c.take_all.ensures.none c.if-not-take_all.true

pub returns : goal.returns
returns c = (c.take_all.ensures.tree c.if-not-take_all.false, c.take_all.ensures.order c.if-not-take_all.false)
