-- A text of amounts read with a sheet, a booking log or a plan drawn by hand: its lines, and what each of them asks.
-- Document 02, Cards 6, 7 and 12. Lines are found by the offset of their first byte, names are looked up among those of the sheet, in either case.
-- `plan` is true of a plan and false of a log: what a line is differs, and nothing else.
use Rattle.std.specs.Prelude.{Option, Some, None, Bool, cond, List, [], ◌∷◌, map, ℕ, zero, suc, ◌+◌, ltb, length, drop, Result, Ok, Err, true, false}
use Rattle.lists.specs.Numbers.{pick, look}
use Rattle.model.specs.Flows.{Links}
use Rattle.model.specs.Parts.{free_pair}
use Rattle.model.specs.Booking.{pair}
use Rattle.model.specs.declared.Pair.{Pair}
use Rattle.model.specs.declared.Request.{Request}
use Rattle.model.specs.declared.Request.TheVariants as request
use Rattle.log_requests.specs.declared.Text.{Text}
use Rattle.log_requests.specs.declared.Text.TheVariants.{Log, Plan}
use Rattle.text_lines.specs.Lines.{line_length, line_at, after_line, has_line}
use Rattle.sheet.specs.Sheet.{Network, ends_of, part, lookup}
use Rattle.log_lines.specs.LogLines.{line_by}
use Rattle.log_lines.specs.declared.Booking.{Booking}

-- a plan, not a log
abbrev pub is_plan : Text → Bool
is_plan Log = false
is_plan Plan = true

-- ---- the lines

-- the offsets of the lines of a text from offset `at` on. fuel: at least the bytes left
unfoldable pub lines_from : List ℕ → ℕ → ℕ → List ℕ
lines_from text zero at = []
lines_from text (suc fuel) at = cond (has_line text at) (at ∷ lines_from text fuel (after_line text at)) []

-- the offsets of all its lines; a text of 0 bytes has none
unfoldable pub lines : List ℕ → List ℕ
lines text = lines_from text (length text) 0

-- what the line at an offset is: 2 where no byte 10 ends it, before all else
unfoldable pub line_of : Bool → List ℕ → ℕ → Result Booking ℕ
line_of plan text at = cond (ltb (at + line_length (drop at text)) (length text)) (line_by plan (line_at text at)) (Err 2)

-- ---- what a line asks, over links ls; t tells the ends: 1 at an end, another number elsewhere

-- to open an amount, or to give it up
abbrev pub request_for : Bool → Pair → Request
request_for opens e = cond opens (request.Open e) (request.GiveUp e)

-- an amount between what the look-ups of two names found: 6 unless they are two different ends with no other end on their path
unfoldable pub between : Links → (ℕ → ℕ) → Bool → ℕ → Option ℕ → Option ℕ → Request
between ls t opens x (Some a) (Some b) = pick (free_pair ls t a b) 1 (request_for opens (pair a b x)) (request.Fault 6)
between ls t opens x (Some a) None = request.Fault 6
between ls t opens x None w = request.Fault 6

-- a line l of a text, by what it is, over the names of the sheet s
unfoldable pub request_by : List ℕ → List (ℕ × ℕ) → Links → (ℕ → ℕ) → List ℕ → Result Booking ℕ → Request
request_by s names ls t l (Ok b) =
    between ls t b.opens b.amount (lookup s names (part l (b.start, b.end))) (lookup s names (part l (b.start2, b.end2)))
request_by s names ls t l (Err k) = request.Fault k

-- the line at an offset of a text
unfoldable pub request_at : Bool → List ℕ → List (ℕ × ℕ) → Links → (ℕ → ℕ) → List ℕ → ℕ → Request
request_at plan s names ls t text at = request_by s names ls t (line_at text at) (line_of plan text at)

-- what the lines of a text ask, one by one
unfoldable pub requests : Bool → List ℕ → List (ℕ × ℕ) → Links → (ℕ → ℕ) → List ℕ → List Request
requests plan s names ls t text = map (request_at plan s names ls t text) (lines text)

-- ---- over the network of an accepted sheet

-- the ends of the network: 1 at an end
abbrev pub is_end : Network → ℕ → ℕ
is_end net = look (ends_of net)
