-- Any site with at most one unvisited link at each step (document 02, Card 3): such runs are just the inward orders.
use Rattle.std.specs.Prelude.{◌≡◌}
use mathlib.Core.List.{List, [], ◌∷◌}
use Prim.Native.Nat.{ℕ, ◌≤◌}
use Rattle.lists.specs.Numbers.{count}
use Rattle.model.specs.Flows.{Links, sum_at}
use Rattle.model.specs.Trimming.{unvisited, remove}

-- v can be taken while us are still to be taken: it is one of them, and has at most one unvisited link
abbrev pub CanBeTaken : Links → List ℕ → ℕ → Type 0
CanBeTaken ls us v = (1 ≤ count us v) × (sum_at ls v (unvisited ls us) ≤ 1)

-- a run: such a site is taken at each step, until none is left
abbrev pub Run : Links → List ℕ → List ℕ → Type 0
Run ls us [] = us ≡ []
Run ls us (v ∷ vs) = CanBeTaken ls us v × Run ls (remove v us) vs
