-- A network that holds a site for each site record and a link for each link record among some, and no other: with one more line it holds one more.
use Rattle.std.specs.Prelude.{List, ◌⊎◌, ◌≡◌, ℕ, ◌-◌, ◌≤◌, ◌<◌, length}
use Rattle.lists.specs.Numbers.{look}
use Rattle.model.specs.Flows.{Site, one, two}
use Rattle.model.specs.declared.Edition.{Edition}
use Rattle.model.specs.declared.Sizing.TheVariants.{Reserved}
use Rattle.text_records.specs.Records.{Record}
use Rattle.sheet_kinds.specs.LineKinds.{field, mark, size, reserve, capacity, IsSite, IsLink}
use Rattle.sheet.specs.Sheet.{Network}
use Rattle.sheet.specs.Causes.{Named}
use Rattle.theory_shuffled.specs.Shuffled.{Stands}
use Rattle.sheet_records.specs.SameRecords.{name_on}

-- r is the record of site v
pub record SiteRecord (s : List ℕ) (net : Network) (v : ℕ) (r : Record) : Type 0 where
  pub site : Site (length net.names) v
  pub is-site : IsSite r
  pub name : name_on s net v ≡ field r 1
  pub marked : look net.marks (v - 1) ≡ mark r

-- r is the record of link j
pub record LinkRecord (ed : Edition) (s : List ℕ) (net : Network) (j : ℕ) (r : Record) : Type 0 where
  pub link : j < length net.links
  pub is-link : IsLink Reserved r
  pub within : size r ≤ ed.size
  pub held : reserve r ≤ size r
  pub first : Named s net.names (field r 1) (one net.links j)
  pub second : Named s net.names (field r 2) (two net.links j)
  pub usable : look net.capacities j ≡ capacity Reserved r

-- the network holds a site or a link for each of the records, and no other
pub record Holds (ed : Edition) (s : List ℕ) (rs : List Record) (net : Network) : Type 0 where
  pub sites : (v : ℕ) → Site (length net.names) v → (r : Record) × Stands r rs × SiteRecord s net v r
  pub links : (j : ℕ) → j < length net.links → (r : Record) × Stands r rs × LinkRecord ed s net j r
  pub held : (r : Record) → Stands r rs → ((v : ℕ) × SiteRecord s net v r) ⊎ ((j : ℕ) × LinkRecord ed s net j r)
  pub marks : length net.marks ≡ length net.names
  pub capacities : length net.capacities ≡ length net.links
