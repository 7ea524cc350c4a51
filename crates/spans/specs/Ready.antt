-- What stands ready on the way to the report of a range sheet: the networks of an accepted sheet with its low and with its high sizes, as lists and taken
-- apart; what is worked out of them is the span, and can be written.
use Rattle.std.specs.Prelude.{◌≡◌, List, map, Result, Ok, Err}
use Prim.Native.Nat.{ℕ}
use Rattle.std.proofs.Math.ListN.{length}
use Rattle.lists.specs.Numbers.{look}
use Rattle.model.specs.Edition.{ranges_low, ranges_high}
use Rattle.model.specs.Flows.{one, two, ends, total}
use Rattle.model.specs.Parts.{pair_list_of_parts}
use Rattle.model.specs.declared.Refusal.{Refusal}
use Rattle.tree.specs.Offer.{links}
use Rattle.trimming.specs.Outcome.{capacities}
use Rattle.sheet.specs.Ranges.{Ranged}
use Rattle.sheet.specs.Reading.{lists}
use Rattle.sheet.specs.Sheet.{Network, accepted, read_as}
use Rattle.sheet.specs.declared.Lists.{Lists}
use Rattle.planner.specs.Shows.{starts, stops, names}

-- ---- what is read

-- the lists of the two networks of an accepted range sheet
pub record Listed (s : List ℕ) (low high : Lists) : Type 0 where
  pub lower : Network
  pub upper : Network
  pub read_low : read_as ranges_low s ≡ accepted lower
  pub read_high : read_as ranges_high s ≡ accepted upper
  pub ranged : Ranged lower upper
  pub low-listed : low ≡ lists lower
  pub high-listed : high ≡ lists upper

-- the capacities alone of the lists that are read
abbrev pub sizes_of : Result Lists Refusal → Result (List ℕ) Refusal
sizes_of (Ok network) = Ok network.capacity
sizes_of (Err r) = Err r

-- ---- taken apart

-- the lists of an accepted range sheet: where its names start and stop, its number of sites, its links, its marks, its low and its high sizes
pub record Apart (s starting stopping : List ℕ) (n : ℕ) (one two marks low high : List ℕ) : Type 0 where
  pub lower : Network
  pub upper : Network
  pub read_low : read_as ranges_low s ≡ accepted lower
  pub read_high : read_as ranges_high s ≡ accepted upper
  pub ranged : Ranged lower upper
  pub started : starting ≡ starts lower
  pub stopped : stopping ≡ stops lower
  pub counted : n ≡ length lower.names
  pub firsts : one ≡ map (λ l. l.0) lower.links
  pub seconds : two ≡ map (λ l. l.1) lower.links
  pub marked : marks ≡ lower.marks
  pub lows : low ≡ lower.capacities
  pub highs : high ≡ upper.capacities

module _ {s : List ℕ} {low high : Lists} (r : Listed s low high) where
  abbrev pub m : ℕ
  m = low.links

  abbrev pub n : ℕ
  n = low.sites

-- ---- what is worked out

-- the largest total of a tree that is given as lists, in halves
unfoldable pub total_by : ℕ → List ℕ → List ℕ → List ℕ → List ℕ → ℕ
total_by n one two marks c = total (pair_list_of_parts (links one two) n (look (capacities n one two marks c)) (look (ends (links one two) n marks)))
