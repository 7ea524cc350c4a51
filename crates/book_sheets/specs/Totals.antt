-- `plan` prints the total of each entry of the exercise book for its sheet. By demand 2: the printed total is the largest of the tree, and so is the entry's.
-- Document 02, Card 13.
use Rattle.std.specs.Prelude.{◌≡◌, List, ℕ}
use Rattle.model.specs.Edition.{editions}
use Rattle.model.specs.Flows.{total}
use Rattle.sheet.specs.Sheet.{Network}
use Rattle.theory_book.specs.Book.{Entry, halves}
use Rattle.demands.specs.Printed.{read_report}
use Rattle.demands.specs.Asked.{IsReport}
use Rattle.book_sheets.specs.Sheet.{sheet_of}
use Rattle.book_sheets.specs.Reads.{ReadAs}

-- the bytes r are the full report on the sheet of an entry, which is read as the entry, and the total printed there is the entry's
pub record PrintsTotal (e : Entry) (r : List ℕ) : Type 0 where
  pub network : Network
  pub read_as : ReadAs e network
  pub report : IsReport editions (sheet_of e) r
  pub total_printed : (read_report (sheet_of e) network r).total ≡ halves e
