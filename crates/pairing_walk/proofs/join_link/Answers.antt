-- `pairing_walk::join_link` meets its contract: no pair, or one.
use Rattle.std.proofs.Common.{arith}
use Rattle.pairing_halves.specs.Adding.{added-nothing}
use Rattle.pairing_walk.proofs.Singles.{link-places, inner_first, inner_second, no_amount, its_pair}
use Rattle.pairing_walk.proofs.join_link.Goals as goal

pub bounds-ends-a : goal.bounds-ends-a
bounds-ends-a c = omega (arith, link-places c.requires.0 c.args.ends.now)

pub returns-then-ends-a-ne1 : goal.returns-then-ends-a-ne1
returns-then-ends-a-ne1 c = rw (inner_first c.requires.0 c.args.ends.now (omega arith)) (added-nothing c.args.pairs.now c.args.end)

pub bounds-ends-b : goal.bounds-ends-b
bounds-ends-b c = omega (arith, link-places c.requires.0 c.args.ends.now)

pub returns-then-ends-b-ne1 : goal.returns-then-ends-b-ne1
returns-then-ends-b-ne1 c = rw (inner_second c.requires.0 c.args.ends.now (omega arith)) (added-nothing c.args.pairs.now c.args.end)

pub returns-then-capacity-j-eq0 : goal.returns-then-capacity-j-eq0
returns-then-capacity-j-eq0 c = rw (no_amount c.requires.0 c.args.ends.now (omega arith)) (added-nothing c.args.pairs.now c.args.end)

pub overflow_mul-pair : goal.overflow_mul-pair
overflow_mul-pair c =
    let l = c.requires.0 in
    omega (arith, l.tree.limited c.args.j (omega (arith, l.link, l.tree.capacities)))

pub returns : goal.returns
returns c = rw (its_pair c.requires.0 c.args.ends.now (omega arith) (omega arith) (omega arith)) c.push_pair.ensures
