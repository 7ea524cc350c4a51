-- `answer_lines`: the log is replayed up to the line at the offset.
use Rattle.std.proofs.Common.{◌-◌, length}
use Rattle.lists.specs.Numbers.{look}
use Rattle.tree.specs.Offer.{links}
use Rattle.sheet_names.specs.Names.{ranges}
use Rattle.logs.specs.Progress as along
use Rattle.logs.proofs.answer_lines.Given as goal

abbrev pub invariant-loop-pairs : goal.invariant-loop-pairs
invariant-loop-pairs l =
    along.Progress l.sheet (ranges l.starts l.stops 0 l.n) (links l.one l.two) (look l.ends) (look l.capacity) l.log l.fn.list l.pairs l.load l.at l.i l.list

abbrev pub decreases-loop-pairs : goal.decreases-loop-pairs
decreases-loop-pairs l = length l.log - l.at
