-- A booking log replayed over a tree: the open pairs, the answer to each request, and what changes.
-- Document 02, Card 6. The state is the list of open pairs, the lower site first in each; the load of a link is that of the list as a multiflow.
-- Amounts are in halves; c: capacities.
use Rattle.std.specs.Prelude.{List, [], ◌∷◌, ◌≢◌, ℕ, ◌+◌, ◌-◌, ◌*◌, ◌≤◌, ◌<◌, length}
use Rattle.lists.specs.Numbers.{pick, is, less, sum, Each}
use Rattle.model.specs.Limits.{AMOUNT, OPEN}
use Rattle.model.specs.Flows.{Links, Site, separates, load}
use Rattle.model.specs.Pairing.{lower_first}
use Rattle.model.specs.declared.Pair.{Pair}
use Rattle.model.specs.declared.Request.{Request}
use Rattle.model.specs.declared.Request.TheVariants.{Open, GiveUp, Fault}

-- ---- open pairs

-- an amount between two sites
abbrev pub pair : ℕ → ℕ → ℕ → Pair
pair a b x = record { first = a; second = b; amount = x }

-- 1 if e is an entry of the pair a, b, 0 if not
unfoldable pub same : ℕ → ℕ → Pair → ℕ
same a b e = is e.first a * is e.second b

-- what the pair a, b has open
unfoldable pub open_of : ℕ → ℕ → List Pair → ℕ
open_of a b [] = 0
open_of a b (e ∷ es) = same a b e * e.amount + open_of a b es

-- how many places the pair a, b has
unfoldable pub places_of : ℕ → ℕ → List Pair → ℕ
places_of a b [] = 0
places_of a b (e ∷ es) = same a b e + places_of a b es

-- x more for the pair a, b: its entry grows, or a new one stands at the end
unfoldable pub grow : ℕ → ℕ → ℕ → List Pair → List Pair
grow a b x [] = pair a b x ∷ []
grow a b x (e ∷ es) = pick (same a b e) 1 (pair a b (e.amount + x) ∷ es) (e ∷ grow a b x es)

-- the last entry of a list, and those before it
unfoldable pub last_of : Pair → List Pair → Pair
last_of e [] = e
last_of e (f ∷ es) = last_of f es

unfoldable pub front_of : Pair → List Pair → List Pair
front_of e [] = []
front_of e (f ∷ es) = e ∷ front_of f es

-- the last entry moved to the front
unfoldable pub moved : List Pair → List Pair
moved [] = []
moved (e ∷ es) = last_of e es ∷ front_of e es

-- x less for the pair a, b: its entry shrinks; where nothing is left it gives its place back, and the last entry takes that place
unfoldable pub shrink : ℕ → ℕ → ℕ → List Pair → List Pair
shrink a b x [] = []
shrink a b x (e ∷ es) = pick (same a b e) 1 (pick e.amount x (moved es) (pair a b (e.amount - x) ∷ es)) (e ∷ shrink a b x es)

-- ---- the answer

module _ (ls : Links) (c : ℕ → ℕ) where
  -- how many links on the path of an entry would be overfilled by it: their load would pass twice their capacity
  unfoldable pub overfilled : List Pair → Pair → ℕ
  overfilled es e = sum (length ls) (λ j. separates ls j e.first e.second * less (2 * c j) (load ls es j + e.amount))

  -- `+`: 15 a link on the path would be overfilled, then 16 one pair more than OPEN, else 0
  unfoldable pub answer_open : List Pair → Pair → ℕ
  answer_open es e =
      pick (overfilled es e) 0
      (pick (open_of e.first e.second es) 0 (pick (less (length es) OPEN) 1 0 16) 0)
      15

  -- `-`: 14 less than that open, else 0
  unfoldable pub answer_give_up : List Pair → Pair → ℕ
  answer_give_up es e = pick (less (open_of e.first e.second es) e.amount) 1 14 0

  -- the answer to a request, 0 or a number; the two sites of a pair may stand in either order
  unfoldable pub answer : List Pair → Request → ℕ
  answer es (Open e) = answer_open es (lower_first e)
  answer es (GiveUp e) = answer_give_up es (lower_first e)
  answer es (Fault k) = k

  -- the open pairs where a request is done
  unfoldable pub changed : List Pair → Request → List Pair
  changed es (Open e) = let p = lower_first e in grow p.first p.second p.amount es
  changed es (GiveUp e) = let p = lower_first e in shrink p.first p.second p.amount es
  changed es (Fault k) = es

  -- the open pairs after a request: a refused one moves nothing
  unfoldable pub next : List Pair → Request → List Pair
  next es r = pick (answer es r) 0 (changed es r) es

  -- ---- a log

  -- the open pairs after the requests of a log
  unfoldable pub after : List Pair → List Request → List Pair
  after es [] = es
  after es (r ∷ rs) = after (next es r) rs

  -- the answers, one for each request
  unfoldable pub answers : List Pair → List Request → List ℕ
  answers es [] = []
  answers es (r ∷ rs) = answer es r ∷ answers (next es r) rs

  -- what a request opens over link j, and what it gives up there
  unfoldable pub opens : Request → ℕ → ℕ
  opens (Open e) j = e.amount * separates ls j e.first e.second
  opens (GiveUp e) j = 0
  opens (Fault k) j = 0

  unfoldable pub gives : Request → ℕ → ℕ
  gives (Open e) j = 0
  gives (GiveUp e) j = e.amount * separates ls j e.first e.second
  gives (Fault k) j = 0

  -- what the requests that are answered 0 opened over link j, and what they gave up there
  unfoldable pub opened : List Pair → List Request → ℕ → ℕ
  opened es [] j = 0
  opened es (r ∷ rs) j = pick (answer es r) 0 (opens r j) 0 + opened (next es r) rs j

  unfoldable pub given_up : List Pair → List Request → ℕ → ℕ
  given_up es [] j = 0
  given_up es (r ∷ rs) j = pick (answer es r) 0 (gives r j) 0 + given_up (next es r) rs j

-- ---- what can be asked, and what is kept

-- an amount that can be asked for: between two different sites, from 1 to AMOUNT
pub record Proper (n : ℕ) (e : Pair) : Type 0 where
  pub first-site : Site n e.first
  pub second-site : Site n e.second
  pub different : e.first ≢ e.second
  pub some : 1 ≤ e.amount
  pub limited : e.amount ≤ AMOUNT

-- a request that can be asked; a fault asks nothing
abbrev pub Asked : ℕ → Request → Type 0
Asked n (Open e) = Proper n e
Asked n (GiveUp e) = Proper n e
Asked n (Fault k) = Unit {0}

-- an open pair: two sites, the lower one first, and an amount above 0
pub record Entry (n : ℕ) (e : Pair) : Type 0 where
  pub first-site : Site n e.first
  pub second-site : Site n e.second
  pub lower-first : e.first < e.second
  pub some : 1 ≤ e.amount

-- what every list of open pairs keeps: at most OPEN entries, no pair twice, and no load above twice the capacity
pub record Kept (ls : Links) (n : ℕ) (c : ℕ → ℕ) (es : List Pair) : Type 0 where
  pub few : length es ≤ OPEN
  pub entries : Each (Entry n) es
  pub once : (a b : ℕ) → places_of a b es ≤ 1
  pub fits : (j : ℕ) → j < length ls → load ls es j ≤ 2 * c j
