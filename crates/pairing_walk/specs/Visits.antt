-- What a visit of the walk is given, and what it leaves in the arrays of its three lists; then the parts, each walked from its root.
-- Document 01, "Pairing", steps 1 to 4, and document 02, Card 7.
use Rattle.std.specs.Prelude.{◌≡◌, ◌≢◌, ℕ, suc, ◌+◌, ◌-◌, ◌*◌, ◌≤◌, ◌<◌, length, set, replicate}
use mathlib.Core.List.{List, ◌++◌, flat_map}
use Rattle.model.specs.Limits.{PLACES, SITES}
use Rattle.lists.specs.Numbers.{look, pick, upfrom}
use Rattle.model.specs.Flows.{Site, sites}
use Rattle.model.specs.Trimming.{Balanced}
use Rattle.model.specs.Pairing.{Halves, Part, walk, lowest_inner}
use Rattle.model.specs.Parts.{pairs_of_part, pair_of_link, pairs_of_parts}
use Rattle.model.specs.declared.Pair.{Pair}
use Rattle.model.specs.declared.Pairs.{Pairs}
use Rattle.model.specs.Edition.{largest}
use Rattle.tree.specs.Offer.{links}
use Rattle.tree.specs.Accepted.{TreeWithin}
use Rattle.tree_links.specs.Chains.{Chained, Summed}
use Rattle.pairing_children.specs.Neighbours.{Listed}
use Rattle.theory_walk.specs.Children.{size}
use Rattle.theory_walk.specs.Walk.{Start}
use Rattle.pairing_halves.specs.declared.Tops.{Tops}
use Rattle.pairing_halves.specs.Arrays.{Held, Added}

-- the walk over a tree that is lent as lists, with its terminals
abbrev pub walk_of : ℕ → List ℕ → List ℕ → List ℕ → List ℕ → ℕ → ℕ → ℕ → ℕ → ℕ → Part
walk_of n ends one two c fuel v j up down = walk (links one two) n (look c) (look ends) fuel v j up down

-- the ups and downs of a part are held in their arrays, and its pairs are added to theirs
pub record Visited (w : Part) (u d : Halves) (p : List Pair) (b : Tops) (x y : Halves) (z : List Pair) (r : Tops) : Type 0 where
  pub ups : Held u b.ups x r.ups w.ups
  pub downs : Held d b.downs y r.downs w.downs
  pub pairs : Added p b.pairs z r.pairs w.pairs

-- site v of a tree with balanced capacities, as the walk comes to it, with fuel and room in the arrays for all the sites below it
pub record Visit (n : ℕ) (ends one two c : List ℕ) (fuel v j up down : ℕ) (u d : Halves) (p : List Pair) (b : Tops) : Type 0 where
  pub tree : TreeWithin largest n one two c
  pub balanced : Balanced (links one two) (look ends) (look c)
  pub site : Site n v
  pub start : Start (links one two) (look c) (look ends) j v up down
  pub fuelled : size (links one two) n j v ≤ fuel
  pub ups_room : b.ups + size (links one two) n j v ≤ length u
  pub downs_room : b.downs + size (links one two) n j v ≤ length d
  pub pairs_room : b.pairs + size (links one two) n j v ≤ length p

-- ---- the parts

-- a tree within the limits, with balanced capacities between any terminals
pub record Fit (n : ℕ) (ends one two c : List ℕ) : Type 0 where
  pub tree : TreeWithin largest n one two c
  pub balanced : Balanced (links one two) (look ends) (look c)

-- the same, its links chained
pub record Walkable (n : ℕ) (ends last before one two c : List ℕ) : Type 0 where
  pub tree : TreeWithin largest n one two c
  pub chained : Chained one two last before
  pub balanced : Balanced (links one two) (look ends) (look c)

-- what the walk looks up: what the links at each site carry together, and the lists of neighbours
pub record Laid (sums first after one two c : List ℕ) : Type 0 where
  pub summed : Summed (links one two) (look c) sums
  pub lists : Listed one two 0 first after

-- 1 if x is a terminal or is done, that is, entered by a walk: no walk starts from it
unfoldable pub covered : (ℕ → ℕ) → List ℕ → ℕ → ℕ
covered terminal done x = pick (terminal x) 1 1 (look done x)

-- no site is done
abbrev pub untouched : List ℕ
untouched = replicate PLACES 0

-- before the first walk: just the lowest inner site is done; and there is room for all sites in the arrays
pub record Begun (n : ℕ) (ends done : List ℕ) (first : ℕ) (u d : Halves) (p : List Pair) : Type 0 where
  pub some : first ≢ 0
  pub lowest : first ≡ lowest_inner (covered (look ends) untouched) 1 n
  pub marked : done ≡ set untouched first 1
  pub ups_room : SITES ≤ length u
  pub downs_room : SITES ≤ length d
  pub pairs_room : 2 * SITES ≤ length p

module _ (m : ℕ) (ends one two c : List ℕ) where
  -- the pairs of the parts whose root is one of the first m sites, by their roots
  abbrev pub parts_to : List Pair
  parts_to = flat_map (pairs_of_part (links one two) (suc (length one)) (look c) (look ends)) (sites m)

  -- the pairs of the single links among the first m
  abbrev pub singles_to : List Pair
  singles_to = flat_map (pair_of_link (links one two) (suc (length one)) (look c) (look ends)) (upfrom 0 m)

-- the pair of link j, if it is single
abbrev pub pair_of : List ℕ → List ℕ → List ℕ → List ℕ → ℕ → List Pair
pair_of ends one two c = pair_of_link (links one two) (suc (length one)) (look c) (look ends)

-- link j of a tree within the limits
pub record Linkable (j : ℕ) (one two c : List ℕ) : Type 0 where
  pub tree : TreeWithin largest (suc (length one)) one two c
  pub link : j < length one

-- the single links of a tree with balanced capacities; the pairs below place e are those of its other parts
pub record Singles (ends one two c : List ℕ) (e : ℕ) : Type 0 where
  pub tree : TreeWithin largest (suc (length one)) one two c
  pub balanced : Balanced (links one two) (look ends) (look c)
  pub walked : e ≡ length (parts_to (suc (length one)) ends one two c)

-- the pairs of a tree that is lent as lists, part by part
abbrev pub pairs_of : ℕ → List ℕ → List ℕ → List ℕ → List ℕ → List Pair
pairs_of n ends one two c = pairs_of_parts (links one two) n (look c) (look ends)

-- so many pairs of zeros
abbrev pub zeros : ℕ → List Pair
zeros k = replicate k (record { first = 0; second = 0; amount = 0 })

-- the pairs es in a list of SITES places, with pairs of zeros behind them
unfoldable pub listing : List Pair → Pairs
listing es = record { list = es ++ zeros (SITES - length es); count = length es }
