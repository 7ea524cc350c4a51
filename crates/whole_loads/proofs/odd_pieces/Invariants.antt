-- `odd_pieces`: the sum along the sites so far, at most one for each.
use Rattle.std.proofs.Common.{◌≡◌, ◌≤◌, take}
use Rattle.lists.specs.Numbers.{over, look}
use Rattle.theory_whole.specs.Counting.{odd_at}
use Rattle.whole_notes.specs.Notes.{note}
use Rattle.whole_loads.proofs.odd_pieces.Given as goal

abbrev pub invariant-loop-v : goal.invariant-loop-v
invariant-loop-v l = record {
  few : l.odd ≤ l.v-index;
  counted : l.odd ≡ over (take l.v-index l.order) (odd_at (look l.parent) (look l.above) (λ x. (note l.notes x).most) (λ x. (note l.notes x).owner));
}
