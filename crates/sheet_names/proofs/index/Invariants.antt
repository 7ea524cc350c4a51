-- `index`: the table is that of the sites before place i.
use Rattle.sheet_names.specs.Names.{ranges, Indexes}
use Rattle.sheet_names.proofs.index.Given as goal

abbrev pub invariant-loop-i : goal.invariant-loop-i
invariant-loop-i l = Indexes l.sheet (ranges l.starts l.ends 0 l.i) l.table
