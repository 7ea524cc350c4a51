-- Lines of a log from before Card 9: a name of digits alone was a name like any other. Document 02, Card 9 ("and in logs").
-- A line is what it was, or a name of it is of digits alone: by the rules, one of which is new.
use Rattle.std.specs.Prelude.{Bool, List, ℕ, Result}
use Rattle.model.specs.Text.{bytes}
use Rattle.text_fields.specs.Fields.{same, fields, field}
use Rattle.sheet_kinds.specs.BareNames.{checked_bare}
use Rattle.log_lines.specs.LogLines.{log_form, judged, booking}
use Rattle.log_lines.specs.declared.Booking.{Booking}

-- what a line was, held against one of the forms
abbrev pub line_as_bare : Bool → List (List ℕ) → Result Booking ℕ
line_as_bare opens fs = judged (checked_bare (log_form opens) fs) (booking opens fs)

-- what a line was
unfoldable pub log_line_bare : List ℕ → Result Booking ℕ
log_line_bare l = line_as_bare (same (field (fields l) 0) (bytes "+")) (fields l)
