-- `odd_pieces`: one site more.
use Rattle.std.proofs.Common.{◌≡◌, ◌<◌, ◌+◌, ℕ, List, sym, ap₂, ◌∙◌, get_or, take, length, arith}
use Rattle.std.proofs.Math.Seq.{get_or-take}
use Rattle.lists.specs.Numbers.{over, look}
use Rattle.theory_whole.specs.Counting.{odd_at}
use Rattle.whole_notes.specs.declared.Note.{Note}
use Rattle.whole_notes.specs.Notes.{note}
use Rattle.whole_loads.specs.Solved.{odd_by}
use Rattle.whole_loads.specs.Counted.{odd_le, odd_is, over-next, over_none}
use Rattle.whole_loads.proofs.odd_pieces.Goals as goal

-- what is counted at site v, whose parent is p, is added
one_more : (order parent above : List ℕ) (notes : List Note) (i : ℕ) → i < length order → {v p odd r : ℕ} → v ≡ look order i → p ≡ look parent v
    → odd ≡ over (take i order) (odd_at (look parent) (look above) (λ x. (note notes x).most) (λ x. (note notes x).owner))
    → r ≡ odd_by (note notes v).owner (note notes p).owner (note notes v).most (look above v)
    → odd + r ≡ over (take (i + 1) order) (odd_at (look parent) (look above) (λ x. (note notes x).most) (λ x. (note notes x).owner))
one_more order parent above notes i h a b s e =
    let most : ℕ → ℕ = λ x. (note notes x).most in
    let owner : ℕ → ℕ = λ x. (note notes x).owner in
    ap₂ ◌+◌ s (rw (b, a) at e ∙ sym (odd_is (look parent) (look above) most owner (look order i)))
    ∙ over-next order (odd_at (look parent) (look above) most owner) i h

pub loop-v-init : goal.loop-v-init
loop-v-init c = record { few = omega arith; counted = over_none c.args.order.now _ }

pub overflow_add-odd : goal.overflow_add-odd
overflow_add-odd c =
    let a = c.args in
    let v = get_or (take a.n a.order.now) c.loop-v.v-index 0 in
    let here = note a.notes.now v in
    let up = note a.notes.now c.from.result in
    omega (arith, c.odd_at-odd.ensures, odd_le here.owner up.owner here.most (look a.above.now v))

pub loop-v-preserved : goal.loop-v-preserved
loop-v-preserved c =
    let a = c.args in
    let i = c.loop-v.v-index in
    let v = get_or (take a.n a.order.now) i 0 in
    let here = note a.notes.now v in
    let up = note a.notes.now c.from.result in
    record {
      few = omega (arith, c.odd_at-odd.ensures, odd_le here.owner up.owner here.most (look a.above.now v));
      counted = one_more a.order.now a.parent.now a.above.now a.notes.now i (omega (arith, c.requires.0.long)) (get_or-take a.n a.order.now i 0 (omega arith))
          c.from.ensures c.loop-v.invariant.counted c.odd_at-odd.ensures;
    }
