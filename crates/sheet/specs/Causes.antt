-- Why a sheet is refused: the causes of document 01's table, each with its number, in the order in which they decide.
-- Document 01, "The network sheet", and 02, Cards 1, 5, 7, 9 and 11 (the forms of lines: `isHeading`, `IsSite`, `IsLink` in LineKinds; broken rules of a form:
-- Grammar, FaultyLines): 1 comes first, then the lowest line with a fault, in a site line 2, 10, 11, 17, 4, 5, in a link line 2, 10, 11, 17, 12, 3, 13 or,
-- on a range sheet, 19, 6, 7; then 8.
use Rattle.std.specs.Prelude.{false, List, ◌⊎◌, ◌≢◌, ◌≡◌, ℕ, suc, ◌+◌, ◌-◌, ◌≤◌, ◌<◌, length}
use Rattle.model.specs.Flows.{Site, Joined}
use Rattle.model.specs.declared.Edition.{Edition}
use Rattle.text_lines.specs.Lines.{line_at, after_line}
use Rattle.text_fields.specs.Fields.{SameName}
use Rattle.sheet_kinds.specs.LineKinds.{fields, field, is_heading, IsSite}
use Rattle.sheet_kinds.specs.FaultyLines.{WrongCount, BadName, BareName, BadNumber, NoLetter, Broken, TooLarge, TooMuchHeld, LowAboveHigh}
use Rattle.sheet_kinds.specs.KindForms.{LinkWithin}
use Rattle.sheet.specs.Sheet.{Network, empty, accepted, read_line}
use Rattle.sheet_names.specs.Names.{name_at}

-- site v has the name f: its own name is the same, in either case (02, Card 4)
pub record Named (s : List ℕ) (names : List (ℕ × ℕ)) (f : List ℕ) (v : ℕ) : Type 0 where
  pub site : Site (length names) v
  pub name : SameName (name_at s names (v - 1)) f

-- no site has the name f
abbrev pub NotGiven : List ℕ → List (ℕ × ℕ) → List ℕ → Type 0
NotGiven s names f = (v : ℕ) → ¬ (Named s names f v)

-- a byte 10 ends the line at an offset
abbrev pub Ended : List ℕ → ℕ → Type 0
Ended s at = at + length (line_at s at) < length s

-- the fields of the line at an offset
abbrev pub fields_at : List ℕ → ℕ → List (List ℕ)
fields_at s at = fields (line_at s at)

-- why line k, at an offset, is refused, the lines above having given a network (01: the table, 2 to 7; Card 1: 10 to 12; Card 5: 13; Card 9: 17; Card 11: 19)
pub data Cause (ed : Edition) (s : List ℕ) (net : Network) (k at : ℕ) : ℕ → Type 0 where
  -- 2: no byte 10 ends the line; line 1 is not the edition's heading; the first field of a later line is no known letter, as that of a second heading
  unended : ¬ (Ended s at) → Cause ed s net k at 2
  no_heading : Ended s at → k ≡ 1 → is_heading ed (fields_at s at) ≡ false → Cause ed s net k at 2
  no_letter : Ended s at → k ≢ 1 → NoLetter (line_at s at) → Cause ed s net k at 2
  -- 10: the letter is known, and the number of fields is not that of its form
  wrong_count : Ended s at → k ≢ 1 → Broken ed.sizing WrongCount (line_at s at) → Cause ed s net k at 10
  -- 11: the letter and the number of fields are right, and some name is no name
  bad_name : Ended s at → k ≢ 1 → Broken ed.sizing BadName (line_at s at) → Cause ed s net k at 11
  -- 17: the letter, the number of fields and the names are right, and some name is of digits alone
  bare_name : Ended s at → k ≢ 1 → Broken ed.sizing BareName (line_at s at) → Cause ed s net k at 17
  -- 12: the letter, the number of fields and the names are right, no name is of digits alone, and some number is badly written
  bad_number : Ended s at → k ≢ 1 → Broken ed.sizing BadNumber (line_at s at) → Cause ed s net k at 12
  -- 3: a size or a reserve above the limit; on a range sheet a low or a high size
  too_large : Ended s at → k ≢ 1 → TooLarge ed (line_at s at) → Cause ed s net k at 3
  -- 13: a reserve above its size
  too_much_held : Ended s at → k ≢ 1 → TooMuchHeld ed (line_at s at) → Cause ed s net k at 13
  -- 19: a low size above its high one, on a range sheet
  low-above-high : Ended s at → k ≢ 1 → LowAboveHigh ed (line_at s at) → Cause ed s net k at 19
  -- 4: a site more than the edition allows
  too_many : Ended s at → k ≢ 1 → IsSite (fields_at s at) → ed.sites ≤ length net.names → Cause ed s net k at 4
  -- 5: a name already given to a site
  given : Ended s at → k ≢ 1 → IsSite (fields_at s at) → length net.names < ed.sites
      → (v : ℕ) → Named s net.names (field (fields_at s at) 1) v → Cause ed s net k at 5
  -- 6: a link to a name not given above
  not-given : Ended s at → k ≢ 1 → LinkWithin ed (line_at s at)
      → NotGiven s net.names (field (fields_at s at) 1) ⊎ NotGiven s net.names (field (fields_at s at) 2) → Cause ed s net k at 6
  -- 7: a link whose sites are joined by links above, or are one site (which is joined to itself)
  already_joined : Ended s at → k ≢ 1 → LinkWithin ed (line_at s at)
      → (v w : ℕ) → Named s net.names (field (fields_at s at) 1) v → Named s net.names (field (fields_at s at) 2) w
      → Joined net.links v w → Cause ed s net k at 7

-- the lines above line k are read without fault and give a network; line k starts at an offset
pub data Reached (ed : Edition) (s : List ℕ) : ℕ → ℕ → Network → Type 0 where
  start : Reached ed s 1 0 empty
  next : {k at : ℕ} {net after : Network} → Reached ed s k at net → at < length s → read_line ed s net k at ≡ accepted after
      → Reached ed s (suc k) (after_line s at) after

-- why a sheet is refused with a number and a line (01: the table, 1 to 8; Card 1: 10 to 12; Card 5: 13; Card 9: 17; Card 11: 19)
pub data Refusal (ed : Edition) (s : List ℕ) : ℕ → ℕ → Type 0 where
  -- 1: no bytes, or more than the edition allows
  by_length : (length s ≡ 0) ⊎ (ed.bytes < length s) → Refusal ed s 1 0
  -- 2 to 7, 10 to 13, 17, 19: the lines above are read without fault, and the line has a cause
  by_line : {n k at : ℕ} {net : Network} → 1 ≤ length s → length s ≤ ed.bytes → Reached ed s k at net → at < length s → Cause ed s net k at n
      → Refusal ed s n k
  -- 8: all lines are read without fault, and there are under two sites, or one is not joined to site 1
  by_whole : {k at : ℕ} {net : Network} → 1 ≤ length s → length s ≤ ed.bytes → Reached ed s k at net → length s ≤ at
      → (length net.names < 2) ⊎ ((x : ℕ) × Site (length net.names) x × (¬ (Joined net.links 1 x))) → Refusal ed s 8 0
