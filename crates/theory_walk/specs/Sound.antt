-- What document 01 says of the pairs ("Pairing", after step 4): loads, sites, amounts, number and order.
use Rattle.std.specs.Prelude.{◌≡◌, List, [], ◌∷◌, ℕ, ◌*◌, ◌≤◌, ◌<◌, length}
use Rattle.lists.specs.Numbers.{Each}
use Rattle.model.specs.Flows.{Links, Multiflow, load, total, at_terminals}
use Rattle.model.specs.Pairing.{joins, before}
use Rattle.model.specs.declared.Pair.{Pair}
use Rattle.lists.specs.Tallies.{tally}

-- how many pairs join x and y, in either order
abbrev pub arises : List Pair → ℕ → ℕ → ℕ
arises es x y = tally (λ e. joins (e.first, e.second) x y) es

-- pairs between the terminals of a tree, amounts in halves; t: balanced capacities
pub record Sound (ls : Links) (n : ℕ) (terminal t : ℕ → ℕ) (es : List Pair) : Type 0 where
  -- the load of each link is twice its balanced capacity
  pub loads : (j : ℕ) → j < length ls → load ls es j ≡ 2 * t j
  -- every pair joins two different terminals, with no other terminal between them
  pub routes : Multiflow ls n terminal es
  -- no amount is 0
  pub positive : Each (λ e. 1 ≤ e.amount) es
  -- every pair arises once only
  pub once : (x y : ℕ) → arises es x y ≤ 1
  -- there are at most as many pairs as links
  pub few : length es ≤ length ls
  -- the total is the sum of the balanced capacities at the terminals
  pub sums : total es ≡ at_terminals ls n terminal t

-- e comes before the first pair of a list
abbrev pub Before : Pair → List Pair → Type 0
Before e [] = Unit {0}
Before e (f ∷ es) = before e f ≡ 1

-- each pair comes before the next (01: ascending by first, then second)
abbrev pub Ascending : List Pair → Type 0
Ascending [] = Unit {0}
Ascending (e ∷ es) = Before e es × Ascending es
