-- `owners`: the places below x hold the owners, and the others 0.
use Rattle.std.proofs.Common.{◌≡◌, ℕ, ◌<◌, ◌≤◌, length}
use Rattle.model.specs.Limits.{PLACES}
use Rattle.lists.specs.Numbers.{look}
use Rattle.whole_notes.specs.Notes.{note}
use Rattle.whole_loads.proofs.owners.Given as goal

abbrev pub invariant-loop-x : goal.invariant-loop-x
invariant-loop-x l = record {
  places : length l.owner ≡ PLACES;
  told : (i : ℕ) → i < l.x → look l.owner i ≡ (note l.notes i).owner;
  ahead : (i : ℕ) → l.x ≤ i → look l.owner i ≡ 0;
}
