-- Plans carried from one numbering of a network to the other: loads and totals stay, so the largest total is the same, among all plans and among those in
-- whole circuits, or of whatever kind. A chain of links stays a chain, so a link separates the same sites.
use mathlib.Core.List.{List, [], ◌∷◌}
use Prim.Native.Nat.{ℕ}
use Rattle.model.specs.declared.Pair.{Pair}

-- ---- separation

-- ---- plans

abbrev pub carry_entry : (ℕ → ℕ) → Pair → Pair
carry_entry site e = record { first = site e.first; second = site e.second; amount = e.amount }

-- the plan in the other numbering
unfoldable pub carry : (ℕ → ℕ) → List Pair → List Pair
carry site [] = []
carry site (e ∷ es) = carry_entry site e ∷ carry site es
