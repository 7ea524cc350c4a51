-- Plans in whole circuits on a tree: what is promised of the loads and the sets that are taken, and of the pairs of such loads.
-- Document 02, Card 2. Amounts are in halves; c: the capacities; terminals are any sites among which are all that have one link.
use Rattle.std.specs.Prelude.{◌≡◌, List, ℕ, ◌+◌, ◌≤◌}
use Rattle.model.specs.Flows.{Links, total, at_terminals}
use Rattle.model.specs.Whole.{WholePlan, set_sizes, odd_pieces}
use Rattle.model.specs.declared.Pair.{Pair}
use Rattle.theory_walk.specs.Sound.{Sound}

-- ---- the pairs of whole loads

-- pairs es of the loads x: a plan in whole circuits that fits, with what the walk promises of its pairs; its total is what the loads bring to the terminals,
-- no such plan has a greater one, and set sizes less odd pieces equal it
pub record PairsWhole (ls : Links) (n : ℕ) (terminal c x owner : ℕ → ℕ) (es : List Pair) : Type 0 where
  pub plan : WholePlan ls n terminal c es
  pub sound : Sound ls n terminal x es
  pub sums : total es ≡ at_terminals ls n terminal x
  pub largest : (fs : List Pair) → WholePlan ls n terminal c fs → total fs ≤ total es
  pub sizes : set_sizes ls n terminal c owner ≡ total es + odd_pieces ls n c owner
