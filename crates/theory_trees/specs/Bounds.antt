-- What fits: a multiflow that fits the given capacities fits the balanced ones, which alone decide what fits and bound its total.
-- Twice the total is the load at the terminals: of the links there, the path of an entry uses one at each of its own two.
use Rattle.std.specs.Prelude.{◌≡◌, length}
use mathlib.Core.List.{List, []}
use Prim.Native.Nat.{ℕ, ◌*◌, ◌<◌}
use Rattle.model.specs.Flows.{Links, load}
use Rattle.model.specs.declared.Pair.{Pair}

-- a multiflow in parts of 1 / parts loads every link with just its capacity t
abbrev pub Fills : Links → ℕ → (ℕ → ℕ) → List Pair → Type 0
Fills ls parts t es = (j : ℕ) → j < length ls → load ls es j ≡ parts * t j
