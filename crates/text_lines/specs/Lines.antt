-- The lines of a sheet, each found by the offset of its first byte.
-- Document 01, "The network sheet" (line reader: each line is a part of the sheet, its byte 10 left off; an unended last line runs to the end).
use Rattle.std.specs.Prelude.{Bool, cond, List, [], ◌∷◌, ◌≡◌, ℕ, suc, ◌+◌, min, eqb, ltb, length, take, drop}
use Rattle.std.specs.Borrow.{Bor}

-- the number of bytes before the first byte 10, or of all bytes where there is none (01: its byte 10 left off)
unfoldable pub line_length : List ℕ → ℕ
line_length [] = 0
line_length (b ∷ bs) = cond (eqb b 10) 0 (suc (line_length bs))

-- the line at an offset: that part of the sheet, its byte 10 left off (01: each line as that very part of the sheet)
unfoldable pub line_at : List ℕ → ℕ → List ℕ
line_at s at = take (line_length (drop at s)) (drop at s)

-- the offset at which that line starts; the end of the sheet for an offset past it
abbrev pub line_start : List ℕ → ℕ → ℕ
line_start s at = min (length s) at

-- the offset at which that line ends, that of its byte 10 or the end of the sheet
unfoldable pub line_end : List ℕ → ℕ → ℕ
line_end s at = line_start s at + line_length (drop at s)

-- the offset after that line and its byte 10; the end of the sheet where the line is unended (01: unended last line)
unfoldable pub after_line : List ℕ → ℕ → ℕ
after_line s at = min (length s) (at + line_length (drop at s) + 1)

-- whether there is a line at an offset (01: after the last line there is none)
unfoldable pub has_line : List ℕ → ℕ → Bool
has_line s at = ltb at (length s)

-- r is the line at an offset of a lent sheet: it has the line's bytes, and they are those of the sheet itself (01: that very part of the sheet)
pub record IsLine (sheet : Bor (List ℕ)) (at : ℕ) (r : Bor (List ℕ)) : Type 0 where
  pub bytes : r.now ≡ line_at sheet.now at
  pub place : r.ref_ptr ≡ (sheet.ref_ptr.0, sheet.ref_ptr.1 + line_start sheet.now at)
