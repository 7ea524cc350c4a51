-- What a scan of a sheet finds: the line at an offset, and the names and numbers that stand on it.
-- Document 01, "The network sheet". Offsets are of the sheet; bytes are numbers: 9 tab, 10 the end of a line.
use Rattle.std.specs.Prelude.{Bool, true, false, List, ◌≡◌, ℕ, zero, suc, ◌+◌, ◌≤◌, ◌<◌, length, get_or, Option, Some, None, Ok}
use Rattle.std.proofs.Math.Seq.{slice}
use Rattle.model.specs.declared.Edition.{Edition}
use Rattle.model.specs.declared.Sizing.{Sizing}
use Rattle.model.specs.declared.Sizing.TheVariants.{Reserved, Low, High}
use Rattle.text_lines.specs.Lines.{line_at, after_line}
use Rattle.text_fields.specs.Fields.{fields, field, all, is_digit, digits_alone, is_letter_or_digit, is_name, is_number, value}
use Rattle.sheet_kinds.specs.LineKinds.{least_numbers, kind}
use Rattle.sheet_kinds.specs.declared.Line.{Line}
use Rattle.sheet_scan.specs.declared.Scanned.{Scanned}
use Rattle.sheet_scan.specs.declared.Number.{Number}
use Rattle.sheet_scan.specs.declared.Numbers.{Numbers}
use Rattle.sheet_scan.specs.declared.Quick.{Quick}

-- the line at an offset: what it is, where it ends, and where the next one starts
unfoldable pub scanned : Edition → List ℕ → ℕ → Scanned
scanned ed s at = record { line = kind ed (line_at s at); end = at + length (line_at s at); next = after_line s at }

-- ---- names

-- every byte from one offset on, before another, passes a test
abbrev pub Run : (ℕ → Bool) → List ℕ → ℕ → ℕ → Type 0
Run p s from to = (k : ℕ) → from ≤ k → k < to → p (get_or s k 0) ≡ true

-- some byte from one offset on, before another, is no digit
abbrev pub SomeLetter : List ℕ → ℕ → ℕ → Type 0
SomeLetter s from to = (k : ℕ) × (from ≤ k) × (k < to) × (is_digit (get_or s k 0) ≡ false)

-- a name, not of digits alone, from one offset on, before another, at which the given byte stands
pub record NameAt (s : List ℕ) (from to stop : ℕ) : Type 0 where
  pub on_sheet : to < length s
  pub run : Run is_letter_or_digit s from to
  pub name : is_name (slice from to s) ≡ true
  pub lettered : digits_alone (slice from to s) ≡ false
  pub followed : get_or s to 0 ≡ stop

-- what is found is so
abbrev pub NameFound : List ℕ → ℕ → ℕ → Option ℕ → Type 0
NameFound s from stop None = Unit {0}
NameFound s from stop (Some to) = (from < to) × NameAt s from to stop

-- ---- numbers

-- digits that make a value, from one offset on, before another
pub record DigitsAt (s : List ℕ) (from to v : ℕ) : Type 0 where
  pub behind : from ≤ to
  pub on_sheet : to < length s
  pub run : Run is_digit s from to
  pub value-is : value (slice from to s) ≡ v

-- a number, of that value, within a limit
pub record NumberAt (s : List ℕ) (from to v most : ℕ) : Type 0 where
  pub digits : DigitsAt s from to v
  pub number : is_number (slice from to s) ≡ true
  pub within : v ≤ most

-- what is found is so
abbrev pub DigitsFound : List ℕ → ℕ → Option Number → Type 0
DigitsFound s from None = Unit {0}
DigitsFound s from (Some n) = DigitsAt s from n.end n.value

abbrev pub NumberFound : List ℕ → ℕ → ℕ → Option Number → Type 0
NumberFound s from most None = Unit {0}
NumberFound s from most (Some n) = NumberAt s from n.end n.value most

-- the numbers of a link line that has one, by what its sheet gives
abbrev pub one_number : Sizing → ℕ → ℕ → Option Numbers
one_number Reserved to v = Some (record { end = to; first = v; second = 0 })
one_number Low to v = None
one_number High to v = None

-- the fields from an offset on are numbers, as many as a link line has, of these values, within the limit, and the line ends before an offset, at byte 10
pub record NumbersAt (ed : Edition) (s : List ℕ) (from to v w : ℕ) : Type 0 where
  pub least : least_numbers ed.sizing ≤ length (fields (line_at s from))
  pub most : length (fields (line_at s from)) ≤ 2
  pub numbers : all is_number (fields (line_at s from)) ≡ true
  pub first : value (field (fields (line_at s from)) 0) ≡ v
  pub second : value (field (fields (line_at s from)) 1) ≡ w
  pub within : v ≤ ed.size
  pub within2 : w ≤ ed.size
  pub ends : from + length (line_at s from) ≡ to
  pub on_sheet : to < length s

abbrev pub NumbersFound : Edition → List ℕ → ℕ → Option Numbers → Type 0
NumbersFound ed s from None = Unit {0}
NumbersFound ed s from (Some n) = NumbersAt ed s from n.end n.first n.second

-- ---- lines

-- a letter and a tab stand at an offset
pub record LetterTab (s : List ℕ) (at letter : ℕ) : Type 0 where
  pub on_sheet : at + 2 ≤ length s
  pub letter_is : get_or s at 0 ≡ letter
  pub tab : get_or s (at + 1) 0 ≡ 9

-- the letter of a site line, by its mark (02, Card 7): `N`, and `T` of a marked site
abbrev pub letter_of : ℕ → ℕ
letter_of zero = 78
letter_of (suc m) = 84

-- what the line at an offset is, and where it ends, at byte 10
pub record LineIs (ed : Edition) (s : List ℕ) (at : ℕ) (line : Line) (to : ℕ) : Type 0 where
  pub kind-is : Ok line ≡ kind ed (line_at s at)
  pub ends : at + length (line_at s at) ≡ to
  pub on_sheet : to < length s

abbrev pub QuickFound : Edition → List ℕ → ℕ → Option Quick → Type 0
QuickFound ed s at None = Unit {0}
QuickFound ed s at (Some q) = LineIs ed s at q.line q.end
