-- The two ways along an order of the sites: what they are given, and what the notes come to, as the intervals and the loading of model/WholeLoads.
use Rattle.std.specs.Prelude.{◌≡◌, List, ℕ, ◌*◌, ◌≤◌, ◌<◌, length, take}
use Rattle.model.specs.Limits.{PLACES, SITES, SIZE}
use Rattle.lists.specs.Numbers.{look}
use Rattle.model.specs.WholeLoads.{no_intervals, take_all, give_all}
use Rattle.whole_notes.specs.declared.Note.{Note}
use Rattle.whole_notes.specs.Notes.{note, intervals_of, loading_of, Within}

-- what the ways are given: an order of n sites, and for each site its parent and the capacity of the link to it
pub record Given (n : ℕ) (order parent above : List ℕ) : Type 0 where
  pub few : n ≤ SITES
  pub long : n ≤ length order
  pub placed : (i : ℕ) → i < n → look order i ≤ SITES
  pub parents : (x : ℕ) → look parent x ≤ SITES
  pub capacities : (x : ℕ) → look above x ≤ SIZE

-- no load is given yet and no set is told: on the way outward a site starts with the highest load
pub record Fresh (e : Note) : Type 0 where
  pub starts : e.load ≡ e.high
  pub unowned : e.owner ≡ 0
  pub off : e.on ≡ 0

-- what the way inward finds along the first i sites of an order
pub record Inward (i : ℕ) (order parent above ends : List ℕ) (l : List Note) : Type 0 where
  pub places : length l ≡ PLACES
  pub small : (x : ℕ) → Within (i * SIZE) (note l x)
  pub fresh : (x : ℕ) → Fresh (note l x)
  pub inward : intervals_of l ≡ take_all (look parent) (look above) (look ends) (take i order) no_intervals

-- what both ways find
pub record Found (n : ℕ) (order parent above ends : List ℕ) (l : List Note) : Type 0 where
  pub places : length l ≡ PLACES
  pub small : (x : ℕ) → Within (SITES * SIZE) (note l x)
  pub inward : intervals_of l ≡ take_all (look parent) (look above) (look ends) (take n order) no_intervals
  pub outward : loading_of l ≡ give_all (look parent) (look above) (look ends) (intervals_of l) (take n order)
