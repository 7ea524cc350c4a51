-- Two accepted sheets that hold the same records give one network, numbered in two ways: sites go by their names, and links by the names of their
-- sites, since a tree has no two links between the same sites.
use Rattle.std.specs.Prelude.{Option, Some, None, List, ◌≡◌, refl, ℕ, ◌-◌, ◌<◌}
use Rattle.std.proofs.Math.ListN.{length}
use Rattle.lists.specs.Numbers.{look}
use Rattle.model.specs.Flows.{Site}
use Rattle.sheet_names.specs.Names.{Different, lookup}
use Rattle.sheet.specs.Sheet.{Network}
use Rattle.sheet.specs.CauseLaws.{Finds, finds}
use Rattle.sheet.specs.Causes.{Named}
use Rattle.sheet_records.specs.SameRecords.{name_on}
use Rattle.sheet_records.specs.LinesRead.{one_site_of_a_name}
use Rattle.demands.specs.Printed.{site_count, site_found, site_named}
use Rattle.shuffled.specs.SameReports.{SameSite, SameLink}

-- ---- from records

-- each site and each link of the one sheet is one of the other, with its mark and its usable size
pub record Among (s : List ℕ) (net : Network) (t : List ℕ) (other : Network) : Type 0 where
  pub sites : (v : ℕ) → Site (site_count net) v → (w : ℕ) × SameSite s net t other v w × (look net.marks (v - 1) ≡ look other.marks (w - 1))
  pub links : (i : ℕ) → i < length net.links → (j : ℕ) × SameLink s net t other i j × (look net.capacities i ≡ look other.capacities j)

-- a name leads to the site that has it, where no two sites have the same name
pub found_by_name : (t : List ℕ) (other : Network) → Different t other.names → (f : List ℕ) (w : ℕ) → Named t other.names f w → site_named t other f ≡ w
unfolding site_named site_found
found_by_name t other different f w h = by (lookup t other.names f) (finds t f other.names)
  where
    by : (u : Option ℕ) → Finds t other.names f u → site_found u ≡ w
    by (Some v) k = one_site_of_a_name t other.names different f f v w k h refl
    by None k = absurd (k w h)

-- site v of the sheet s goes to the site of its name on the sheet t
abbrev pub site_to : List ℕ → Network → List ℕ → Network → ℕ → ℕ
site_to s net t other v = site_named t other (name_on s net v)
