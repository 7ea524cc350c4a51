-- What Cards 1, 4, 5, 7, 8 and 9 changed in reading, for planning (document 02), for either report, every sheet and every buffer. By the lines from before
-- Card 9, outcome and buffer are today's wherever no name is of digits alone, and wherever 17 is not told; the others speak of sheets without such names. By
-- the numbering from before, which gave 2 for each fault of form, they are today's, but that 2 stands for 10, 11 and 12; by the look-up from before, which
-- went by the bytes of names, they are today's wherever no two names differ in case alone; by the site lines from before, with the letter `N`, wherever no
-- line has the letter `T`; by the link lines from before, of four fields, wherever no link line has a reserve either; by edition 1 alone wherever line 1 is
-- not the heading of edition 2. Since sheets are read so, and a report that is too long is told as 9.
use Rattle.std.specs.Prelude.{Bool, List, ◌≡◌, ℕ, ◌≤◌, ◌<◌, leb, length, Ok, Err}
use Rattle.std.proofs.Math.Bool.{true, false, cond}
use Rattle.std.proofs.Math.Path.{refl, ap}
use Rattle.model.specs.Edition.{edition1, edition2, editions}
use Rattle.model.specs.Refusals.{refused_as}
use Rattle.model.specs.declared.Edition.{Edition}
use Rattle.model.specs.declared.Sizing.TheVariants.{Reserved}
use Rattle.sheet.specs.Sheet.{Read, refused, accepted, read_sheet, lookup, edition_of}
use Rattle.sheet.specs.Earlier.{Kinds, kind, kind_bare, kind_before, kind_unmarked, kind_unreserved, Lookup, lookup_bytes, read_as_by}
use Rattle.sheet.specs.Renumbered.{number_before, read_before, a_sheet_is_read_by_its_kinds, a_sheet_is_read_as_before}
use Rattle.sheet.specs.BareNames.{WithoutBareNames, a_sheet_without_bare_names_is_read_as_before}
use Rattle.sheet.specs.BareNames.{a_sheet_not_refused_with_17_is_read_as_before}
use Rattle.sheet.specs.Marks.{WithoutMarks, a_sheet_without_marks_is_read_as_before}
use Rattle.sheet.specs.Reserves.{WithoutReserves, a_sheet_without_reserves_is_read_as_before}
use Rattle.sheet.specs.Editions.{Headed, editions_before}
use Rattle.sheet.proofs.Editions.{other_sheets_are_read_as_before}
use Rattle.sheet.proofs.Editions.{the_new_heading_was_refused_with_2, the_new_heading_was_refused_with_1}
use Rattle.sheet.specs.Spelling.{SpeltAlike, a_sheet_spelt_alike_is_read_as_before}
use Rattle.planner.specs.Outcome.{Outcome, Planned, Reporter, deliver, plan_read, planned_by}

-- planning by kinds of lines and a look-up of names: `plannedBy` is that by `kind` and `lookup`
unfoldable pub planned_reading : Kinds → Lookup → Reporter → List Edition → List ℕ → List ℕ → Planned
planned_reading kinds find text known s b = plan_read text s b (read_as_by kinds find (edition_of known s) s)

-- the outcome before: 2 for 10, 11 and 12, at the same line; everything else stays, and so does the buffer
abbrev pub outcome_before : Outcome → Outcome
outcome_before (Ok n) = Ok n
outcome_before (Err r) = refused_as (number_before r.number) r.line

abbrev pub planned_before : Planned → Planned
planned_before p = record { outcome = outcome_before p.outcome; buffer = p.buffer }

module _ (text : Reporter) (known : List Edition) (s b : List ℕ) where
  delivered_stays : (r : List ℕ) → deliver r b ≡ planned_before (deliver r b)
  unfolding deliver number_before
  delivered_stays r = by (leb (length r) (length b)) _ _ refl refl
    where
      by : (t : Bool) (p q : Planned) → p ≡ planned_before p → q ≡ planned_before q → cond t p q ≡ planned_before (cond t p q)
      by true p q e f = e
      by false p q e f = f

  read_before_lem : (r : Read) → plan_read text s b (read_before r) ≡ planned_before (plan_read text s b r)
  unfolding plan_read
  read_before_lem (refused n k) = refl
  read_before_lem (accepted net) = delivered_stays (text s net)

  -- today's planning is the one by today's kinds of lines and look-up
  pub a_sheet_is_planned_by_its_kinds : planned_reading kind lookup text known s b ≡ planned_by text known s b
  unfolding planned_reading planned_by
  a_sheet_is_planned_by_its_kinds = rw (a_sheet_is_read_by_its_kinds (edition_of known s) s)

  -- a sheet without bare numbers for names gets the outcome and the buffer that it had when such names were names
  pub a_sheet_without_bare_names_is_planned_as_before : WithoutBareNames s → planned_reading kind_bare lookup text known s b ≡ planned_by text known s b
  unfolding planned_reading planned_by
  a_sheet_without_bare_names_is_planned_as_before lettered = rw (a_sheet_without_bare_names_is_read_as_before (edition_of known s) s lettered)

  -- and so does every sheet that is not told as 17 now
  pub a_sheet_not_told_as_17_is_planned_as_before : ((k : ℕ) → ¬ ((planned_by text known s b).outcome ≡ refused_as 17 k))
      → planned_reading kind_bare lookup text known s b ≡ planned_by text known s b
  unfolding planned_reading planned_by plan_read
  a_sheet_not_told_as_17_is_planned_as_before none =
      rw (a_sheet_not_refused_with_17_is_read_as_before (edition_of known s) s (λ k e. none k (rw e)))

  -- what was told as 2 before is told as one of 2, 10, 11, 12 now, at the same line; every other outcome, and the buffer, is as it was
  pub a_sheet_is_planned_as_before : WithoutBareNames s → planned_reading kind_before lookup text known s b ≡ planned_before (planned_by text known s b)
  unfolding planned_reading planned_by
  a_sheet_is_planned_as_before lettered = rw (a_sheet_is_read_as_before (edition_of known s) s lettered) (read_before_lem (read_sheet known s))

  -- a sheet on which no two names differ in case alone, and whose link lines spell as its site lines do, gets the outcome and the buffer that it had
  pub a_sheet_spelt_alike_is_planned_as_before : SpeltAlike s → planned_reading kind lookup_bytes text known s b ≡ planned_by text known s b
  unfolding planned_reading planned_by
  a_sheet_spelt_alike_is_planned_as_before alike = rw (a_sheet_spelt_alike_is_read_as_before (edition_of known s) s alike)

  -- a sheet without marks gets the outcome and the buffer that it had by the site lines from before
  pub a_sheet_without_marks_is_planned_as_before : WithoutMarks s → WithoutBareNames s
      → planned_reading kind_unmarked lookup text known s b ≡ planned_by text known s b
  unfolding planned_reading planned_by
  a_sheet_without_marks_is_planned_as_before none lettered = rw (a_sheet_without_marks_is_read_as_before (edition_of known s) s none lettered)

  -- and one of a network edition without reserves and marks gets those that it had by the link lines from before
  pub a_sheet_without_reserves_is_planned_as_before : (edition_of known s).sizing ≡ Reserved → WithoutReserves s → WithoutMarks s → WithoutBareNames s
      → planned_reading kind_unreserved lookup text known s b ≡ planned_by text known s b
  unfolding planned_reading planned_by
  a_sheet_without_reserves_is_planned_as_before network none unmarked lettered =
      rw (a_sheet_without_reserves_is_read_as_before (edition_of known s) network s none unmarked lettered)

-- ---- Card 8

module _ (text : Reporter) (s b : List ℕ) where
  -- a sheet that is not headed as edition 2, as every sheet of edition 1, is planned as it was
  pub other_sheets_are_planned_as_before : ¬ (Headed edition2 s) → planned_by text editions s b ≡ planned_by text editions_before s b
  unfolding planned_by
  other_sheets_are_planned_as_before none = ap (plan_read text s b) (other_sheets_are_read_as_before s none)

  module _ (headed : Headed edition2 s) where
    -- the new heading was refused with 2 at line 1, or with 1 where the sheet is longer than edition 1 allows, and the buffer stayed as it was
    pub the_new_heading_was_told_as_2 : length s ≤ edition1.bytes → planned_by text editions_before s b ≡ record { outcome = refused_as 2 1; buffer = b }
    unfolding planned_by plan_read
    the_new_heading_was_told_as_2 few = rw (the_new_heading_was_refused_with_2 s headed few)

    pub the_new_heading_was_told_as_1 : edition1.bytes < length s → planned_by text editions_before s b ≡ record { outcome = refused_as 1 0; buffer = b }
    unfolding planned_by plan_read
    the_new_heading_was_told_as_1 long = rw (the_new_heading_was_refused_with_1 s headed long)
