-- The invariant: the line ends where it does from the first byte on.
use Rattle.std.proofs.Common.{◌≡◌, ◌+◌, ◌-◌, ◌≤◌, length, drop}
use Rattle.text_lines.specs.Lines.{line_length}
use Rattle.text_lines.proofs.pass_over.Given as goal

abbrev pub invariant-loop-end : goal.invariant-loop-end
invariant-loop-end l = (l.end ≤ length l.sheet) × (l.end + line_length (drop l.end l.sheet) ≡ l.from + line_length (drop l.from l.sheet))

abbrev pub decreases-loop-end : goal.decreases-loop-end
decreases-loop-end l = length l.sheet - l.end
