-- The sheet of an entry is accepted, and read as its links and sizes: line after line, each site under a new name, each link between sites that those above do
-- not join, and in the end all are joined.
use Rattle.std.specs.Prelude.{◌≡◌, ℕ, ◌+◌, ◌-◌, ◌≤◌, ◌<◌, length, drop, replicate}
use mathlib.Core.List.{List, [], ◌++◌}
use Rattle.lists.specs.Numbers.{look}
use Rattle.model.specs.Edition.{edition1, editions}
use Rattle.model.specs.Flows.{Site, Tree, sites}
use Rattle.model.specs.declared.Edition.{Edition}
use Rattle.text_writers.specs.Fields.{line}
use Rattle.sheet_names.specs.Names.{name_at}
use Rattle.sheet.specs.Sheet.{Network, accepted, read_lines, read_sheet}
use Rattle.theory_book.specs.Book.{Entry}
use Rattle.book_sheets.specs.Sheet.{site_name, sheet_of}
use Rattle.book_sheets.specs.Steps.{NamesAre}

-- ---- the site lines

-- where reading has come to behind m site lines, and the network there
pub record Behind (ed : Edition) (s : List ℕ) (k at : ℕ) (net : Network) (m : ℕ) (rest : List ℕ) : Type 0 where
  pub line : ℕ
  pub offset : ℕ
  pub network : Network
  pub later : 2 ≤ line
  pub read : read_lines ed s (length s - at) k at net ≡ read_lines ed s (length s - offset) line offset network
  pub follows : drop offset s ≡ rest
  pub names : NamesAre s network.names
  pub counted : length network.names ≡ length net.names + m
  pub marks : network.marks ≡ net.marks ++ replicate m 0
  pub links : network.links ≡ net.links
  pub capacities : network.capacities ≡ net.capacities

-- ---- the sheet

-- a tree with a size for each link, within the limits of edition 1
pub record Fits (e : Entry) : Type 0 where
  pub tree : Tree e.links e.sites
  pub few : e.sites ≤ edition1.sites
  pub sized : length e.sizes ≡ length e.links
  pub small : (j : ℕ) → j < length e.sizes → look e.sizes j ≤ edition1.size

-- how its sheet is read: as its links and sizes, between as many sites, in number order `s1`, `s2`, .., none marked
pub record ReadAs (e : Entry) (net : Network) : Type 0 where
  pub read : read_sheet editions (sheet_of e) ≡ accepted net
  pub count : length net.names ≡ e.sites
  pub names : (v : ℕ) → Site e.sites v → name_at (sheet_of e) net.names (v - 1) ≡ site_name v
  pub marks : net.marks ≡ replicate e.sites 0
  pub links : net.links ≡ e.links
  pub capacities : net.capacities ≡ e.sizes
