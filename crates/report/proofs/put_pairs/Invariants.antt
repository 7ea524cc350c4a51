-- The lines of the first pairs are written.
use Rattle.std.proofs.Common.{take}
use Rattle.text_writers.specs.Wrote.{Wrote}
use Rattle.report.specs.Report.{lines, pair_line}
use Rattle.report.specs.Lent.{name_in}
use Rattle.report.proofs.put_pairs.Given as goal

abbrev pub invariant-loop-pair : goal.invariant-loop-pair
invariant-loop-pair l = Wrote l.fn.buf l.at (lines (pair_line (name_in l.names)) (take l.pair-index l.pairs)) l.buf l.next
