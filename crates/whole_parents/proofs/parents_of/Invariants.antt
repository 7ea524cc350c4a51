-- `parents_of`: the children of the links before j have their parents.
use Rattle.std.proofs.Common.{◌≡◌, length, take}
use Rattle.model.specs.Limits.{PLACES}
use Rattle.tree.specs.Offer.{links}
use Rattle.whole_parents.proofs.Laws.{Settling}
use Rattle.whole_parents.proofs.parents_of.Given as goal

abbrev pub invariant-loop-j : goal.invariant-loop-j
invariant-loop-j l = record {
  parents : length l.parent ≡ PLACES;
  capacities : length l.above ≡ PLACES;
  settled : Settling (links l.one l.two) (take l.n l.order) l.capacity l.child l.j l.parent l.above;
}
