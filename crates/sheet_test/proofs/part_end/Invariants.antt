-- The place lies between the start and the end.
use Rattle.std.proofs.Common.{length, ◌≤◌}
use Rattle.sheet_test.proofs.part_end.Given as goal

abbrev pub invariant-loop-end : goal.invariant-loop-end
invariant-loop-end l = (l.from ≤ l.end) × (l.end ≤ length l.text)
