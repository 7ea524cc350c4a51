-- The records of a text, of a sheet or of a report: its lines, each as its fields.
-- Document 01, "The network sheet" (one record a line, fields parted by one tab, every line ended by byte 10) and "The report, given whole".
use Rattle.std.specs.Prelude.{cond, List, [], ◌∷◌, map, ℕ, eqb, get_or}
use Rattle.text_fields.specs.Fields.{push, fields}

-- the lines of a text, each without its byte 10
unfoldable pub lines_of : List ℕ → List (List ℕ)
lines_of [] = []
lines_of (b ∷ bs) = cond (eqb b 10) ([] ∷ lines_of bs) (push b (lines_of bs))

-- a line as its fields
abbrev pub Record : Type 0
Record = List (List ℕ)

-- the lines of a text, each as its fields, parted by one tab
unfoldable pub records : List ℕ → List Record
records r = map fields (lines_of r)

-- the first line of a text
unfoldable pub first_line : List ℕ → Record
first_line r = get_or (records r) 0 []
