-- The invariant: the line from `end` on ends where the line from `at` on does.
use Rattle.std.proofs.Common.{◌≡◌, ◌+◌, ◌-◌, ◌≤◌, length, drop}
use Rattle.text_lines.specs.Lines.{line_length, line_end}
use Rattle.text_lines.proofs.line_end.Given as goal

abbrev pub invariant-loop-end : goal.invariant-loop-end
invariant-loop-end l = (l.end ≤ length l.sheet) × (l.end + line_length (drop l.end l.sheet) ≡ line_end l.sheet l.at)

abbrev pub decreases-loop-end : goal.decreases-loop-end
decreases-loop-end l = length l.sheet - l.end
