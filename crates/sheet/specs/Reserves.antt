-- What Card 5 changed in reading (document 02): a sheet without reserves, marks and bare numbers for names is read as it was when a link line had four
-- fields and its size for its capacity, and a site line the letter `N`. Line by line.
use Rattle.std.specs.Prelude.{List, ◌≢◌, ◌≡◌, ℕ, length}
use Rattle.model.specs.Text.{bytes}
use Rattle.model.specs.declared.Edition.{Edition}
use Rattle.model.specs.declared.Sizing.TheVariants.{Reserved}
use Rattle.text_lines.specs.Lines.{line_at}
use Rattle.sheet_kinds.specs.LineKinds.{field}
use Rattle.sheet_kinds.specs.Unmarked.{a_line_without_mark_is_as_before}
use Rattle.sheet_kinds.specs.Unreserved.{a_line_without_reserve_is_as_before}
use Rattle.sheet.specs.Sheet.{Network, step_of, read_as, lookup}
use Rattle.sheet.specs.Earlier.{kind_unreserved, step_by, read_as_by}
use Rattle.sheet.specs.Alike.{offset, placed, a_sheet_is_read_alike}
use Rattle.sheet.specs.Causes.{fields_at, Reached}
use Rattle.sheet.specs.BareNames.{WithoutBareNames, a_line_that_is_reached_is_as_before}
use Rattle.sheet.specs.Marks.{WithoutMarks, another_letter}

-- no link line of the sheet has a fifth field
abbrev pub WithoutReserves : List ℕ → Type 0
WithoutReserves s = (above : ℕ) → let fs = fields_at s (offset s above) in field fs 0 ≡ bytes "L" → length fs ≢ 5

module _ (ed : Edition) (network : ed.sizing ≡ Reserved) (s : List ℕ) (none : WithoutReserves s) (unmarked : WithoutMarks s)
    (lettered : WithoutBareNames s) where
  step_alike : (k at : ℕ) (net : Network) → Reached ed s k at net → step_by kind_unreserved lookup ed s net k at ≡ step_of ed s net k at
  unfolding step_by
  step_alike k at net r =
      let p = placed r in
      let unreserved = a_line_without_reserve_is_as_before ed network (line_at s at) (rw p.2 (none p.0)) in
      rw (unreserved, a_line_without_mark_is_as_before ed (line_at s at) (another_letter ed s unmarked r))
      (a_line_that_is_reached_is_as_before ed s lettered r)

  -- a sheet without reserves, marks and bare numbers for names is read as it was
  pub a_sheet_without_reserves_is_read_as_before : read_as_by kind_unreserved lookup ed s ≡ read_as ed s
  a_sheet_without_reserves_is_read_as_before = a_sheet_is_read_alike kind_unreserved lookup ed s step_alike
