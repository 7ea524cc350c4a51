-- The lines of the first j links are written, each of at most 60 bytes.
use Rattle.std.proofs.Common.{◌+◌, ◌*◌, ◌≤◌}
use Rattle.text_writers.specs.Wrote.{Wrote}
use Rattle.region_report.specs.Laws.{first_lines}
use Rattle.region_report.proofs.size_lines.Given as goal

abbrev pub invariant-loop-j : goal.invariant-loop-j
invariant-loop-j l = (l.next ≤ l.at + 60 * l.j) × Wrote l.fn.buf l.at (first_lines l.sheet l.network l.sizes l.j) l.buf l.next
