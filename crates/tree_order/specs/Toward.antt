-- The elimination order with one site, the root, kept until the end.
-- Nothing here is a term of document 01; without a root the order is that of the definition of balanced capacities.
use Rattle.std.specs.Prelude.{List, [], ◌∷◌, ◌++◌, ℕ, zero, suc, ◌-◌, replicate}
use Rattle.model.specs.Limits.{SITES}
use Rattle.lists.specs.Numbers.{count}
use Rattle.model.specs.Flows.{Links, sites}
use Rattle.model.specs.Trimming.{first, remove}

-- the next k sites in the order taken, while us are still to be taken and the root among them waits
unfoldable pub taken_toward : Links → ℕ → ℕ → List ℕ → List ℕ
taken_toward ls root zero us = []
taken_toward ls root (suc k) us = let v = first ls us (remove root us) in v ∷ taken_toward ls root k (remove v us)

-- always the lowest-numbered untaken site other than the root with at most one unvisited link, and the root last, if it is a site
unfoldable pub elimination_toward : Links → ℕ → ℕ → List ℕ
elimination_toward ls n root = let last = count (sites n) root in taken_toward ls root (n - last) (sites n) ++ replicate last root

-- an order of n sites in SITES places, 0 past the last
unfoldable pub order_in : ℕ → List ℕ → List ℕ
order_in n order = order ++ replicate (SITES - n) 0
