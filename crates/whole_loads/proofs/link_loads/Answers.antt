-- `link_loads`: one load more.
use Rattle.std.proofs.Common.{◌≡◌, ℕ, ap, ◌∙◌, arith}
use Rattle.lists.specs.Numbers.{look}
use Rattle.tree.specs.Places.{filled, filled_none, filled_next}
use Rattle.whole_notes.specs.Notes.{note}
use Rattle.whole_loads.proofs.link_loads.Goals as goal

pub loop-j-init : goal.loop-j-init
loop-j-init c = filled_none _ _

pub bounds-notes-from : goal.bounds-notes-from
bounds-notes-from c = omega (arith, c.requires.2 c.loop-j.j (omega arith), c.from.ensures)

pub loop-j-preserved : goal.loop-j-preserved
loop-j-preserved c =
    let a = c.args in
    filled_next (λ i. (note a.notes.now (look a.child.now i)).load) c.loop-j.j a.lent.now (omega arith) c.loop-j.invariant
    (let load : ℕ → ℕ = λ x. (note a.notes.now x).load in c.from-in-loop-j.ensures ∙ ap load c.from.ensures)

pub returns : goal.returns
returns c =
    let a = c.args in
    let all : c.loop-j.j ≡ a.m = omega arith in
    c.loop-j.invariant ∙ ap (λ j. filled (λ i. (note a.notes.now (look a.child.now i)).load) j a.lent.now) all
