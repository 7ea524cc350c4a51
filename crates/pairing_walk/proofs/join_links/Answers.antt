-- `join_links`: each turn adds the pair of one link, and there are never more pairs than links.
use Rattle.std.proofs.Common.{◌≡◌, length, arith}
use mathlib.Core.List.{flat_map}
use Rattle.lists.specs.Numbers.{upfrom}
use Rattle.pairing_halves.specs.Adding.{added-nothing}
use Rattle.pairing_walk.proofs.Singles.{singles_room, singles_next}
use Rattle.pairing_walk.proofs.join_links.Goals as goal

pub loop-j-init : goal.loop-j-init
unfolding upfrom flat_map
loop-j-init c = added-nothing c.args.pairs.now c.args.from

pub join_link-end-requires : goal.join_link-end-requires
join_link-end-requires c = (
  record { tree = c.requires.0.tree; link = c.loop-j-test.true },
  singles_room c.requires.0 c.loop-j.j c.loop-j.invariant (omega arith) c.requires.1,
)

pub loop-j-preserved : goal.loop-j-preserved
loop-j-preserved c = singles_next c.requires.0 c.loop-j.j c.loop-j.invariant c.join_link-end.ensures

pub returns : goal.returns
returns c =
    let last : c.loop-j.j ≡ length c.args.chains.now.tree.one.now = omega arith in
    rw last at c.loop-j.invariant
