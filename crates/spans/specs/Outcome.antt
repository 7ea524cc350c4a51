-- The outcome of the span of a range sheet, for every sheet and every buffer: number, line, length, and the buffer after.
-- Document 02, Card 11; 01, the table of causes and the lines below it.
use Rattle.std.specs.Prelude.{List, ℕ}
use Rattle.model.specs.Edition.{ranges_low, ranges_high}
use Rattle.model.specs.Refusals.{refused_as}
use Rattle.sheet.specs.Sheet.{Network, empty, Read, refused, accepted, read_as}
use Rattle.report.specs.Span.{span_report}
use Rattle.planner.specs.Outcome.{Planned, deliver}

-- the network that is read, and none where the sheet is refused
unfoldable pub network_of : Read → Network
network_of (refused n k) = empty
network_of (accepted net) = net

-- a range sheet that is read with its low sizes and with its high sizes (both are refused alike: `a-range-sheet-is-read-alike` in sheet/Ranges)
unfoldable pub span_read : List ℕ → List ℕ → Read → Read → Planned
span_read s b (refused n k) high = record { outcome = refused_as n k; buffer = b }
span_read s b (accepted low) high = deliver (span_report s low (network_of high)) b

-- the outcome of the span of the sheet s into the buffer b
unfoldable pub spanned : List ℕ → List ℕ → Planned
spanned s b = span_read s b (read_as ranges_low s) (read_as ranges_high s)
