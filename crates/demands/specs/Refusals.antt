-- The numbers of a sheet's refusals are those of the table, 1 to 8, 10 to 13 and 17, with 19 for 13 on a range sheet (`SheetNumber`): never 0, which is
-- success, nor 9, which is the
-- buffer's; and the line is within the limit of bytes. Since each comes for a cause of the table, on a line of the sheet.
use Rattle.std.specs.Prelude.{◌≡◌, List, ℕ, ◌≤◌}
use Rattle.model.specs.declared.Edition.{Edition}
use Rattle.sheet.specs.Sheet.{refused, read_sheet, edition_of}
use Rattle.sheet.specs.Causes.{Refusal}
use Rattle.sheet.specs.SheetTheorem.{a_sheet_is_refused_for_its_cause}
use Rattle.sheet.specs.Answers.{SheetNumber}
use Rattle.sheet.proofs.Answers.{refusals_have_sheet_numbers, a_line_at_fault_is_on_the_sheet}

module _ (known : List Edition) (s : List ℕ) (k l : ℕ) (e : read_sheet known s ≡ refused k l) where
  cause : Refusal (edition_of known s) s k l
  cause = (a_sheet_is_refused_for_its_cause (edition_of known s) s k l).0 e

  pub sheets_are_refused_with_a_sheet_number : SheetNumber (edition_of known s).sizing k
  sheets_are_refused_with_a_sheet_number = refusals_have_sheet_numbers (edition_of known s) s cause

  pub sheets_are_refused_at_a_line_within_the_limit : l ≤ (edition_of known s).bytes
  sheets_are_refused_at_a_line_within_the_limit = (a_line_at_fault_is_on_the_sheet (edition_of known s) s cause).1
