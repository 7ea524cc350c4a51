-- What a program prints of its input.
use Rattle.std.specs.Prelude.{List, ℕ, Bool, ◌+◌, take, replicate}
use Rattle.model.specs.Edition.{editions}
use Rattle.model.specs.Limits.{BYTES, REPORT}
use Rattle.planner.specs.Outcome.{Answer, reporter, spelt, answered_by}
use Rattle.spans.specs.Outcome.{spanned}

-- the sheet that is read: the input, and of a longer one a byte more than a sheet may have
abbrev pub sheet_in : List ℕ → List ℕ
sheet_in input = take (BYTES + 1) input

-- the buffer that an answer is written into
abbrev pub blank : List ℕ
blank = replicate REPORT 0

-- the bytes of an answer
abbrev pub printed : Answer → List ℕ
printed a = take a.length a.buffer

-- the report of a sheet, in whole circuits or in halves, or the line of its refusal
abbrev pub plan_printed : Bool → List ℕ → List ℕ
plan_printed whole sheet = printed (answered_by (reporter whole) editions sheet blank)

-- the report of a range sheet, or the line of its refusal
abbrev pub span_printed : List ℕ → List ℕ
span_printed sheet = printed (spelt (spanned sheet blank).outcome (spanned sheet blank).buffer)
