-- The place lies between the start and the end.
use Rattle.std.proofs.Common.{length, ◌≤◌}
use Rattle.tries.proofs.sheet_end.Given as goal

abbrev pub invariant-loop-at : goal.invariant-loop-at
invariant-loop-at l = (l.from ≤ l.at) × (l.at ≤ length l.text)
