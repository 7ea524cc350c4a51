-- The parents hold the labels by the kept links from j on.
use Rattle.std.proofs.Common.{◌≡◌, length}
use Rattle.model.specs.Limits.{PLACES}
use Rattle.tree_parents.specs.Parents.{Lower, Tells}
use Rattle.cuts_groups.proofs.Kept.{group_from}
use Rattle.cuts_groups.proofs.join_kept.Given as goal

abbrev pub invariant-loop-j : goal.invariant-loop-j
invariant-loop-j l = (length l.parents ≡ PLACES) × Lower l.parents × Tells l.parents (group_from l.one l.two l.capacity l.balanced l.j)
