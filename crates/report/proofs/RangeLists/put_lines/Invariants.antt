-- The lines of the first j links are written.
use Rattle.std.proofs.Common.{take, length}
use Rattle.lists.specs.Numbers.{upfrom}
use Rattle.text_writers.specs.Wrote.{Wrote}
use Rattle.report.specs.Report.{lines}
use Rattle.report.specs.Lent.{range_of}
use Rattle.report.proofs.RangeLists.put_lines.Given as goal

abbrev pub invariant-loop-j : goal.invariant-loop-j
invariant-loop-j l = Wrote l.fn.buf l.at (lines (range_of l.names l.self) (take l.j (upfrom 0 (length l.self.one.now)))) l.buf l.next
