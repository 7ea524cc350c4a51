-- `OpenPairs::grow`: the entry at place k grows, or a new one stands behind the others.
use Rattle.std.proofs.Common.{refl}
use Rattle.log_pairs.specs.Rows.{held_grown, held_new}
use Rattle.log_pairs.proofs.OpenPairs.grow.Goals as goal

pub returns-in-Some : goal.returns-in-Some
returns-in-Some c = let g = rw c.in-Some.is at c.requires in held_grown g.1 g.0

pub returns : goal.returns
returns c = let g = rw c.in_default.is at c.requires in rw c.packed.ensures (held_new g refl)
