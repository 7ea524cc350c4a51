-- `both_ways`: at first no site has come, and then one site more.
use Rattle.std.proofs.Common.{◌≡◌, ◌-◌, suc, refl, arith}
use Rattle.whole_loops.proofs.Laws.{outward_none, outward_turn, both_found}
use Rattle.whole_loops.proofs.both_ways.Goals as goal

pub loop-i-init : goal.loop-i-init
loop-i-init c = outward_none c.requires c.inward-notes.ensures

pub loop-i-preserved : goal.loop-i-preserved
loop-i-preserved c =
    let a = c.args in
    let i = c.loop-i.i - 1 in
    let after : c.loop-i.i ≡ suc i = omega arith in
    outward_turn c.requires a.ends.now i (omega arith) (rw after at c.loop-i.invariant) refl c.from-p.ensures c.from-child.ensures
    c.come.result c.loaded.result c.come.ensures c.loaded.ensures

pub returns : goal.returns
returns c =
    let none : c.loop-i.i ≡ 0 = omega arith in
    both_found c.inward-notes.ensures (rw none at c.loop-i.invariant)
