-- The definitions give each of the nine sheets exactly its report: one proof, by computation, over the list.
use Rattle.std.specs.Prelude.{length, replicate, Ok}
use Rattle.model.specs.Edition.{editions}
use Rattle.report.specs.Report.{report}
use Rattle.planner.specs.Outcome.{Planned, Reporter, planned_by}
use Rattle.nine.specs.Sheets.{Example}

-- planning a sheet by the definitions, into a buffer just as long as the report that is expected
unfoldable pub planned_for : Reporter → Example → Planned
planned_for text e = planned_by text editions e.sheet (replicate (length e.report) 0)

-- success, with the report's length and exactly the report's bytes
unfoldable pub expected : Example → Planned
expected e = record { outcome = Ok (length e.report); buffer = e.report }
