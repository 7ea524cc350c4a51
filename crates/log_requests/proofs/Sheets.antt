-- An accepted sheet with which a second text is read: it has no cause of its own, and this is its network.
use Rattle.std.specs.Prelude.{List, ◌≡◌, ℕ}
use Rattle.lists.specs.Sums.{contradiction}
use Rattle.model.specs.declared.Edition.{Edition}
use Rattle.sheet.specs.Sheet.{Network, accepted, read_sheet, edition_of}
use Rattle.sheet.specs.SheetTheorem.{a_sheet_is_refused_for_its_cause}
use Rattle.log_requests.specs.Sheets.{Sheet}

pub an_accepted_sheet : (known : List Edition) (s : List ℕ) (net : Network) → read_sheet known s ≡ accepted net → Sheet known s net
an_accepted_sheet known s net e =
    record { no_cause = λ k line c. let r = (a_sheet_is_refused_for_its_cause (edition_of known s) s k line).1 c in contradiction cc; read = e }
