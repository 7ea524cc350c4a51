-- `join_kept` meets its contract: each turn joins the sites of one link more, or leaves it.
use Rattle.std.proofs.Common.{◌≡◌, ◌+◌, ◌-◌, ◌∙◌, arith}
use Rattle.model.specs.Limits.{PLACES}
use Rattle.lists.specs.Places.{length-upfrom}
use Rattle.tree_parents.specs.Roots.{own-lower}
use Rattle.cuts_groups.proofs.Kept.{groups_none, groups_in, groups_out, groups-all}
use Rattle.cuts_groups.proofs.join_kept.Goals as goal

pub loop-j-init : goal.loop-j-init
loop-j-init c = let a = c.args in
    rw c.requires.0 (length-upfrom 0 PLACES, own-lower PLACES, groups_none a.one.now a.two.now a.capacity.now a.balanced.now c.requires.1.seconds)

pub join-requires : goal.join-requires
join-requires c =
    let e = c.requires.1.sites (c.loop-j.j - 1) (omega arith) in
    (c.loop-j.invariant.1, omega (arith, e, c.loop-j.invariant.0), omega (arith, e, c.loop-j.invariant.0))

pub loop-j-preserved-then-balanced-j : goal.loop-j-preserved-then-balanced-j
loop-j-preserved-then-balanced-j c =
    let a = c.args in
    let j = c.loop-j.j - 1 in
    let next : c.loop-j.j ≡ j + 1 = omega arith in
    let joins = c.join.ensures in (
      joins.long ∙ c.loop-j.invariant.0,
      joins.lower,
      groups_in a.one.now a.two.now a.capacity.now a.balanced.now c.requires.1.seconds j (omega arith) c.if-balanced-j.true
          (joins.tells _ (rw next at c.loop-j.invariant.2)),
    )

pub loop-j-preserved : goal.loop-j-preserved
loop-j-preserved c =
    let a = c.args in
    let j = c.loop-j.j - 1 in
    let next : c.loop-j.j ≡ j + 1 = omega arith in (
      c.loop-j.invariant.0,
      c.loop-j.invariant.1,
      groups_out a.one.now a.two.now a.capacity.now a.balanced.now c.requires.1.seconds j (omega arith)
          c.if-balanced-j.false (rw next at c.loop-j.invariant.2),
    )

pub returns : goal.returns
returns c =
    let a = c.args in
    let none : c.loop-j.j ≡ 0 = omega arith in (
      c.loop-j.invariant.0,
      c.loop-j.invariant.1,
      groups-all a.one.now a.two.now a.capacity.now a.balanced.now c.requires.1.seconds (rw none at c.loop-j.invariant.2),
    )
