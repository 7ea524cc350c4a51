-- An accepted sheet with which a second text is read: it has no cause of its own, and this is its network.
use Rattle.std.specs.Prelude.{List, ◌≡◌, ℕ}
use Rattle.model.specs.declared.Edition.{Edition}
use Rattle.sheet.specs.Sheet.{Network, accepted, read_sheet, edition_of}
use Rattle.sheet.specs.Causes.{Refusal}

pub record Sheet (known : List Edition) (s : List ℕ) (net : Network) : Type 0 where
  pub no_cause : (k line : ℕ) → ¬ (Refusal (edition_of known s) s k line)
  pub read : read_sheet known s ≡ accepted net
