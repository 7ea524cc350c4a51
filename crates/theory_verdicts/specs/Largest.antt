-- Whether a plan drawn by hand is one of the largest: its total is the sum of the trimmed sizes at the ends exactly if no plan that fits, however finely
-- cut, has a greater total. By the plan of the pairing, which fits and has that sum as its total.
use Rattle.std.specs.Prelude.{List, ℕ, ◌*◌, ◌≤◌}
use Rattle.lists.specs.Numbers.{look}
use Rattle.model.specs.Flows.{Links, Multiflow, Fits, total}
use Rattle.model.specs.declared.Pair.{Pair}

-- no plan that fits has a greater total than so many halves: of k parts to a circuit it has at most k times half as many
abbrev pub NoneGreater : Links → ℕ → (ℕ → ℕ) → List ℕ → ℕ → Type 0
NoneGreater ls n terminal c halves =
    (fs : List Pair) → Multiflow ls n terminal fs → (k : ℕ) → 1 ≤ k → Fits ls k (look c) fs → 2 * total fs ≤ k * halves
