-- A plan drawn by hand over a tree: the answer to each of its lines, what its lines come to, and whether it is one of the largest.
-- Document 02, Card 12; 01, "Plans, trimmed sizes, end sets" (plan, load, fits, total). Amounts are in halves; c: capacities.
-- A line asks for an amount between two sites, told as one to open, or is a fault; no line of a plan gives up.
use Rattle.std.specs.Prelude.{List, [], ◌∷◌, ℕ, suc, ◌*◌, length}
use Rattle.lists.specs.Numbers.{pick, less, sum, look}
use Rattle.model.specs.Flows.{Links, load, at_terminals}
use Rattle.model.specs.Trimming.{balanced}
use Rattle.model.specs.Pairing.{lower_first}
use Rattle.model.specs.Booking.{places_of}
use Rattle.model.specs.declared.Pair.{Pair}
use Rattle.model.specs.declared.Request.{Request}
use Rattle.model.specs.declared.Request.TheVariants.{Open, GiveUp, Fault}

-- ---- the lines; es: the entries of the lines before, the latest first, with the lower site first in each

-- the answer to a line: the number of its fault; 20 where an earlier line gives its pair, in either order; else 0
unfoldable pub line_answer : List Pair → Request → ℕ
line_answer es (Open e) = let p = lower_first e in pick (places_of p.first p.second es) 0 0 20
line_answer es (GiveUp e) = 2
line_answer es (Fault k) = k

-- the entries with that of a line more
unfoldable pub entered : List Pair → Request → List Pair
entered es (Open e) = lower_first e ∷ es
entered es (GiveUp e) = es
entered es (Fault k) = es

-- what the lines come to: the number and the line of the lowest fault, or the entries
pub data Account : Type 0 where
  faulty : ℕ → ℕ → Account
  entries : List Pair → Account

-- the lines rs, the first of them being line i: the lowest faulty line decides
unfoldable pub account : ℕ → List Pair → List Request → Account
account i es [] = entries es
account i es (r ∷ rs) = pick (line_answer es r) 0 (account (suc i) (entered es r) rs) (faulty (line_answer es r) i)

-- ---- the loads

-- how many links have a load above twice their capacity
unfoldable pub overloaded : Links → (ℕ → ℕ) → List Pair → ℕ
overloaded ls c es = sum (length ls) (λ j. less (2 * c j) (load ls es j))

-- ---- the largest total

-- the sum of the trimmed sizes at the ends: no plan has more halves, and one has as many
unfoldable pub largest_total : Links → ℕ → (ℕ → ℕ) → List ℕ → ℕ
largest_total ls n terminal c = at_terminals ls n terminal (look (balanced ls n terminal c))
