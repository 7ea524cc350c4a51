-- The figures in halves of two sheets that hold the same sites and links by name agree: total, trimmed sizes, ends, end sets, their sizes and counts; and
-- so does the total in whole circuits.
use Rattle.std.specs.Prelude.{List, ◌≡◌, ℕ}
use Rattle.lists.specs.Numbers.{look}
use Rattle.model.specs.Flows.{total}
use Rattle.text_fields.specs.Fields.{SameName}
use Rattle.sheet.specs.Sheet.{Network}
use Rattle.sheet_records.specs.SameRecords.{name_on}
use Rattle.report.specs.Report.{owner_name}
use Rattle.planner.specs.Figures.{Figures, pairs_by}
use Rattle.demands.specs.Printed.{is_end}
use Rattle.shuffled.specs.SameReports.{SameSite, SameLink}

-- what the figures of two networks have in common, matched by names
pub record Agree (s : List ℕ) (net : Network) (f : Figures) (t : List ℕ) (other : Network) (g : Figures) : Type 0 where
  pub totals : total (pairs_by net f) ≡ total (pairs_by other g)
  pub usable : (i j : ℕ) → SameLink s net t other i j → look net.capacities i ≡ look other.capacities j
  pub shown : (i j : ℕ) → SameLink s net t other i j → look f.shown i ≡ look g.shown j
  pub ends : (v w : ℕ) → SameSite s net t other v w → is_end net v ≡ is_end other w
  pub owners : (v w : ℕ) → SameSite s net t other v w → SameName (owner_name (name_on s net) (f.owner v)) (owner_name (name_on t other) (g.owner w))
  pub members : (v w a b : ℕ) → SameSite s net t other v w → SameSite s net t other a b → f.owner v ≡ a → g.owner w ≡ b
  pub sizes : (v w : ℕ) → SameSite s net t other v w → f.size v ≡ g.size w
  pub counts : (v w : ℕ) → SameSite s net t other v w → f.count v ≡ g.count w
