-- How the code holds the network read so far: the names as ranges in two lists, and for each site a parent, with the same root just for joined sites.
use Rattle.std.specs.Prelude.{List, reverse, ◌≡◌, ℕ, length}
use Rattle.model.specs.Limits.{PLACES}
use Rattle.model.specs.Flows.{Links, label}
use Rattle.tree_parents.specs.Parents.{Lower, Tells}
use Rattle.sheet_names.specs.Names.{ranges}
use Rattle.sheet.specs.Sheet.{Network}

-- the parents hold the labels of links, each link joining its sites after those before it
pub record LabelsOf (ls : Links) (parents : List ℕ) : Type 0 where
  pub long : length parents ≡ PLACES
  pub lower : Lower parents
  pub tells : Tells parents (label (reverse ls))

-- the lists hold the names of a network, and the labels of its links
pub record Held (starts ends : List ℕ) (sites : ℕ) (parents : List ℕ) (net : Network) : Type 0 where
  pub names : ranges starts ends 0 sites ≡ net.names
  pub labels_are : LabelsOf net.links parents
