-- `parents_of`: in each turn the child of one link gets its parent.
use Rattle.std.proofs.Common.{◌≡◌, ◌≤◌, length, refl, length-set, arith}
use Rattle.model.specs.Limits.{SIZE}
use Rattle.lists.specs.Numbers.{look}
use Rattle.whole_parents.specs.Parents.{ordered-within}
use Rattle.whole_parents.proofs.Laws.{other, settled_none, settled_next, settled_all}
use Rattle.whole_parents.proofs.parents_of.Goals as goal

pub children-child-requires : goal.children-child-requires
children-child-requires c = ordered-within c.requires.0 c.requires.1

pub loop-j-init : goal.loop-j-init
loop-j-init c = record {
  parents = refl;
  capacities = refl;
  settled = settled_none (ordered-within c.requires.0 c.requires.1) c.args.capacity.now c.children-child.result c.children-child.ensures;
}

pub returns : goal.returns
returns c =
    let all : c.loop-j.j ≡ length c.args.one.now = omega arith in
    settled_all (ordered-within c.requires.0 c.requires.1) c.args.capacity.now c.children-child.result c.children-child.ensures
    c.loop-j.parent c.loop-j.above (rw all at c.loop-j.invariant.settled)

-- the sites of a link, and its child

pub overflow_add-parent : goal.overflow_add-parent
overflow_add-parent c =
    let k = c.children-child in
    let o = other (ordered-within c.requires.0 c.requires.1) c.args.capacity.now k.result k.ensures c.loop-j.j c.loop-j-test.true in
    omega (arith, o)

pub overflow_sub-parent : goal.overflow_sub-parent
overflow_sub-parent c =
    let k = c.children-child in
    let o = other (ordered-within c.requires.0 c.requires.1) c.args.capacity.now k.result k.ensures c.loop-j.j c.loop-j-test.true in
    omega (arith, o.less, c.from-c.ensures)

pub overflow_cast-parent : goal.overflow_cast-parent
overflow_cast-parent c =
    let k = c.children-child in
    let o = other (ordered-within c.requires.0 c.requires.1) c.args.capacity.now k.result k.ensures c.loop-j.j c.loop-j-test.true in
    omega (arith, o.low, c.from-c.ensures)

pub loop-j-preserved : goal.loop-j-preserved
loop-j-preserved c =
    let now = c.loop-j in
    let w = c.requires.0 in
    let j = now.j in
    let small : look c.args.capacity.now j ≤ SIZE = w.limited j (omega (arith, w.firsts, w.capacities)) in
    rw c.from-c.ensures (record {
      parents = simp length-set now.invariant.parents;
      capacities = simp length-set now.invariant.capacities;
      settled = settled_next (ordered-within w c.requires.1) c.args.capacity.now c.children-child.result c.children-child.ensures j (omega arith) small
          now.parent now.above now.invariant.parents now.invariant.capacities now.invariant.settled;
    })
