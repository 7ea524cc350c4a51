-- A region offered as lists: its number of sites, the first and the second sites of its links, its marks and its capacities.
-- Document 02, Card 10.
use Rattle.std.specs.Prelude.{◌≡◌, List, ℕ, ◌≤◌, length}
use Rattle.std.proofs.Common.{arith}
use Rattle.model.specs.Limits.{SITES}
use Rattle.model.specs.Edition.{largest}
use Rattle.model.specs.Flows.{Ends}
use Rattle.theory_regions.specs.Regions.{Region}
use Rattle.tree.specs.Accepted.{MarkedTree}
use Rattle.tree.specs.declared.accepted.AcceptedTree.{AcceptedTree}
use Rattle.tree.specs.Offer.{links}
use Rattle.tree_links.specs.Chains.{Placed, offer-placed}

-- the region of the lists
abbrev pub region_by : ℕ → List ℕ → List ℕ → List ℕ → List ℕ → Region
region_by n one two marks c = record { links = links one two; sites = n; marks = marks; capacities = c }

-- the region of an accepted tree
abbrev pub region_of : AcceptedTree → Region
region_of t = region_by t.sites t.one.now t.two.now t.marks.now t.capacity.now

-- links between n sites, and a mark for each site
pub record Sited (n : ℕ) (one two marks : List ℕ) : Type 0 where
  pub few : n ≤ SITES
  pub marked : n ≡ length marks
  pub placed : Placed one two
  pub ends : Ends (links one two) n

-- a tree within the limits has them
pub a_tree_is_sited : {n : ℕ} {one two marks c : List ℕ} → MarkedTree largest n one two marks c → Sited n one two marks
a_tree_is_sited w = record { few = omega (arith, w.within.few); marked = w.marked; placed = offer-placed w.within; ends = w.within.tree.ends }
