-- The lines of the first i sites are written.
use Rattle.std.proofs.Common.{take}
use Rattle.model.specs.Flows.{sites}
use Rattle.text_writers.specs.Wrote.{Wrote}
use Rattle.report.specs.Report.{lines}
use Rattle.report.specs.Lent.{site_of}
use Rattle.report.proofs.SiteLists.put_site_lines.Given as goal

abbrev pub invariant-loop-i : goal.invariant-loop-i
invariant-loop-i l = Wrote l.fn.buf l.at (lines (site_of l.names l.self) (take l.i (sites l.self.many))) l.buf l.next
