-- The outcome of planning, for either report, every sheet and every buffer: number, line, length, and the buffer after.
-- Document 01, the table of causes and the lines below it; 02, Card 2 (a second report).
use Rattle.std.specs.Prelude.{Bool, true, false, cond, List, ◌++◌, ℕ, leb, length, drop, Result, Ok, Err}
use Rattle.std.proofs.lemmas.List.Edits.{sets}
use Rattle.model.specs.Refusals.{refused_as}
use Rattle.model.specs.declared.Edition.{Edition}
use Rattle.model.specs.declared.Refusal.{Refusal}
use Rattle.sheet.specs.Sheet.{Network, Read, refused, accepted, read_sheet}
use Rattle.report.specs.Report.{report, whole_report, refusal_line}
-- document 01's number and line for each outcome
pub use Rattle.model.specs.Refusals.{number, line_of}

-- the outcome of planning: a report of so many bytes, or a refusal
abbrev pub Outcome : Type 0
Outcome = Result ℕ Refusal

-- the length of the report; 0 of a refusal
abbrev pub length_of : Outcome → ℕ
length_of (Ok n) = n
length_of (Err r) = 0

-- planning, with the buffer as it is before: the outcome and the buffer after
pub record Planned : Type 0 where
  pub outcome : Outcome
  pub buffer : List ℕ

-- a report into a buffer: 9 where it is longer than the buffer; the bytes after it keep their values
unfoldable pub deliver : List ℕ → List ℕ → Planned
deliver r b =
    cond (leb (length r) (length b))
    (record { outcome = Ok (length r); buffer = r ++ drop (length r) b })
    (record { outcome = refused_as 9 0; buffer = b })

-- what gives the text of a report, from a sheet and its network: `report` or `wholeReport`
abbrev pub Reporter : Type 0
Reporter = List ℕ → Network → List ℕ

-- a sheet that is read, planned
unfoldable pub plan_read : Reporter → List ℕ → List ℕ → Read → Planned
plan_read text s b (refused n k) = record { outcome = refused_as n k; buffer = b }
plan_read text s b (accepted net) = deliver (text s net) b

-- the outcome of planning the sheet s into the buffer b
unfoldable pub planned_by : Reporter → List Edition → List ℕ → List ℕ → Planned
planned_by text known s b = plan_read text s b (read_sheet known s)

-- with the report in halves, headed `plan`; with that in whole circuits, headed `whole` (02, Card 2)
abbrev pub planned : List Edition → List ℕ → List ℕ → Planned
planned = planned_by report

abbrev pub planned_whole : List Edition → List ℕ → List ℕ → Planned
planned_whole = planned_by whole_report

-- the report that is asked for: in whole circuits, or in halves
unfoldable pub reporter : Bool → Reporter
reporter true = whole_report
reporter false = report

-- ---- what the program prints

-- the bytes printed, and the buffer that holds them at its front
pub record Answer : Type 0 where
  pub length : ℕ
  pub buffer : List ℕ

-- the report, or the line of the refusal
unfoldable pub spelt : Outcome → List ℕ → Answer
spelt (Ok n) b = record { length = n; buffer = b }
spelt (Err r) b = record { length = length (refusal_line r.number r.line); buffer = sets b 0 (refusal_line r.number r.line) }

-- the answer to the sheet s, in the buffer b
unfoldable pub answered_by : Reporter → List Edition → List ℕ → List ℕ → Answer
answered_by text known s b = spelt (planned_by text known s b).outcome (planned_by text known s b).buffer

abbrev pub answered : List Edition → List ℕ → List ℕ → Answer
answered = answered_by report

abbrev pub answered_whole : List Edition → List ℕ → List ℕ → Answer
answered_whole = answered_by whole_report
