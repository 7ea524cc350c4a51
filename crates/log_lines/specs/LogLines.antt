-- What a line of a booking log is: an amount to open or to give up between two names, or a fault, by its fields held against the two forms; and a line of a
-- plan drawn by hand. Document 02, Card 6 ("A log line is `+` or `-`, two end names and an amount in halves from 1 to 2,000,000, tab-parted"); Card 9 (no
-- bare numbers as names); Card 12 ("lines `P`, name, name, amount in halves, tab-parted", form faults as in a log).
use Rattle.std.specs.Prelude.{Bool, true, false, cond, ◌&&◌, List, ℕ, ◌+◌, leb, length, Result, Ok, Err}
use Rattle.model.specs.Limits.{AMOUNT}
use Rattle.model.specs.Text.{bytes}
use Rattle.text_fields.specs.Fields.{same, fields, field, value}
use Rattle.text_grammar.specs.Grammar.{checked}
use Rattle.text_grammar.specs.declared.Form.{Form}
use Rattle.log_lines.specs.declared.Booking.{Booking}
-- a line that is formed, or its fault
unfoldable pub use Rattle.sheet_kinds.specs.LineKinds.{judged}

-- `+` where the line opens, `-` where it gives up
abbrev pub sign : Bool → ℕ
sign opens = cond opens 43 45

-- letter, tab, name, tab, name, tab, amount
abbrev pub amount_form : ℕ → Form
amount_form letter = record { letter = letter; names = 2; least = 1; most = 1 }

-- the sign is the letter of a line of a log
abbrev pub log_form : Bool → Form
log_form opens = amount_form (sign opens)

-- `P`, the letter of a line of a plan
abbrev pub plan_letter : ℕ
plan_letter = 80

-- an amount asked for between names of a and b bytes
abbrev pub asked : Bool → ℕ → ℕ → ℕ → Booking
asked opens a b x = record { opens = opens; start = 2; end = 2 + a; start2 = 3 + a; end2 = 3 + a + b; amount = x }

-- a line of such a form, or fault 3 where its amount is not from 1 to AMOUNT
unfoldable pub booking : Bool → List (List ℕ) → Result Booking ℕ
booking opens fs =
    let a = length (field fs 1) in
    let b = length (field fs 2) in
    let x = value (field fs 3) in
    cond (leb 1 x && leb x AMOUNT) (Ok (asked opens a b x)) (Err 3)

-- a line held against the form with a letter
unfoldable pub line_as : ℕ → Bool → List (List ℕ) → Result Booking ℕ
line_as letter opens fs = judged (checked (amount_form letter) fs) (booking opens fs)

-- what a line of a log is: one that opens where the first field is `+`, else one that gives up
unfoldable pub log_line : List ℕ → Result Booking ℕ
log_line l = let opens = same (field (fields l) 0) (bytes "+") in line_as (sign opens) opens (fields l)

-- what a line of a plan is: an amount between two names, told as one to open, or a fault
unfoldable pub plan_line : List ℕ → Result Booking ℕ
plan_line l = line_as plan_letter true (fields l)

-- what a line is, of a plan or of a log
abbrev pub line_by : Bool → List ℕ → Result Booking ℕ
line_by true = plan_line
line_by false = log_line
