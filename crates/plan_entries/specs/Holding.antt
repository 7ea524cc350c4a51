-- The entries of a plan drawn by hand as the code holds them: a row of bits for each site, the sites above it with which it is given as a pair, and the load
-- of each link. What a line leaves of them.
use Rattle.std.specs.Prelude.{◌≡◌, List, ◌∷◌, ℕ, suc, ◌+◌, ◌*◌, ◌≤◌, ◌<◌, length}
use Rattle.model.specs.Limits.{AMOUNT, ROWS, SITES, PLANLINES}
use Rattle.lists.specs.Numbers.{pick, look}
use Rattle.model.specs.Flows.{Links, load, total}
use Rattle.model.specs.Booking.{places_of}
use Rattle.model.specs.declared.Pair.{Pair}
use Rattle.model.specs.declared.Request.{Request}
use Rattle.theory_verdicts.specs.HandPlan.{line_answer, entered}
use Rattle.log_paths.specs.Tables.{in_table}
use Rattle.plan_entries.specs.declared.Entered.{Entered}

-- the arrays are whole, and every load is small
pub record Roomy (given l : List ℕ) : Type 0 where
  pub rows : length given ≡ ROWS
  pub places : length l ≡ SITES
  pub small : (j : ℕ) → look l j ≤ PLANLINES * AMOUNT

-- they hold the entries es: bit k of the row of site a tells whether the pair a, k + 1 is given, place j has the load of link j
pub record Holding (ls : Links) (es : List Pair) (given l : List ℕ) : Type 0 where
  pub rows : length given ≡ ROWS
  pub places : length l ≡ SITES
  pub pairs : (a k : ℕ) → k < SITES → in_table given k a ≡ places_of a (suc k) es
  pub loads : (j : ℕ) → look l j ≡ load ls es j

-- a pair is entered, its lower site first, or gets 20
pub record PairEntered (ls : Links) (es : List Pair) (p : Pair) (given l : List ℕ) (r : Entered) : Type 0 where
  pub said : r.number ≡ pick (places_of p.first p.second es) 0 0 20
  pub holds : r.number ≡ 0 → Holding ls (p ∷ es) given l
  pub amount : r.number ≡ 0 → r.amount ≡ p.amount
  pub limited : r.amount ≤ AMOUNT

-- a line is entered, or gets its number
pub record LineEntered (ls : Links) (es : List Pair) (q : Request) (given l : List ℕ) (r : Entered) : Type 0 where
  pub said : r.number ≡ line_answer es q
  pub holds : r.number ≡ 0 → Holding ls (entered es q) given l
  pub totals : r.number ≡ 0 → total (entered es q) ≡ r.amount + total es
  pub limited : r.amount ≤ AMOUNT
