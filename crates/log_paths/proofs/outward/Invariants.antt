-- `outward`: the rows of the sites from place i on are made.
use Rattle.log_paths.specs.Rows.{Spread}
use Rattle.log_paths.proofs.outward.Given as goal

abbrev pub invariant-loop-i : goal.invariant-loop-i
invariant-loop-i l = Spread l.n l.order l.parent l.up l.i l.rows
