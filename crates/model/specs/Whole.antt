-- Plans in whole circuits: what is asked of plans, loads, sets and pieces. Document 02, Card 2. Amounts are in halves, loads and capacities in circuits;
-- c: the capacities. A set is told by its terminal: `owner x` is the terminal whose set holds site x, or 0 where none does, so sets are disjoint.
use Rattle.std.specs.Prelude.{◌≡◌, ◌≢◌, ◌⊎◌, List, ℕ, ◌+◌, ◌*◌, ◌%◌, ◌≤◌, length}
use Rattle.lists.specs.Numbers.{is, differ, sum, over, Each}
use Rattle.model.specs.Flows.{Links, Site, Multiflow, Below, Fits, sites, one, two, sum_at, label, total, at_terminals}
use Rattle.model.specs.Trimming.{Balanced}
use Rattle.model.specs.Cuts.{kept}
use Rattle.model.specs.declared.Pair.{Pair}

-- ---- plans and loads

-- m is even: in halves, a whole number of circuits
abbrev pub Even : ℕ → Type 0
Even m = (h : ℕ) × (m ≡ 2 * h)

-- a plan in whole circuits that fits (02: a fitting plan whose amounts are all even in halves)
pub record WholePlan (ls : Links) (n : ℕ) (terminal c : ℕ → ℕ) (es : List Pair) : Type 0 where
  pub routes : Multiflow ls n terminal es
  pub even : Each (λ e. Even e.amount) es
  pub fits : Fits ls 2 c es

-- loads that such a plan can have: none passes its capacity, no inner site has a heavy link, and the loads at an inner site sum to an even number
pub record WholeLoads (ls : Links) (n : ℕ) (terminal c x : ℕ → ℕ) : Type 0 where
  pub below : Below ls x c
  pub balanced : Balanced ls terminal x
  pub even : (v : ℕ) → Site n v → terminal v ≢ 1 → Even (sum_at ls v x)

-- ---- sets

-- each terminal is in its own set, and every set is that of a terminal (02: disjoint end sets, each with its own end and no other end)
pub record EndSets (n : ℕ) (terminal owner : ℕ → ℕ) : Type 0 where
  pub own : (a : ℕ) → Site n a → terminal a ≡ 1 → owner a ≡ a
  pub owned : (x : ℕ) → Site n x → (owner x ≡ 0) ⊎ (Site n (owner x) × (terminal (owner x) ≡ 1))

module _ (ls : Links) (c owner : ℕ → ℕ) where
  -- the capacities of the links with just one site in the set of a, summed (01: size of a set)
  unfoldable pub set_size : ℕ → ℕ
  set_size a = sum (length ls) (λ j. differ (is (owner (one ls j)) a) (is (owner (two ls j)) a) * c j)

  -- ---- pieces

  -- 1 if link j connects: its sites are in no set, and its capacity is not 0 (02: a link of size 0 connects nothing here)
  unfoldable pub connects : ℕ → ℕ
  connects j = is (owner (one ls j)) 0 * (is (owner (two ls j)) 0 * differ (c j) 0)

  -- the piece of a site in no set, told by one of its sites (02: a largest connected group of sites in no set)
  unfoldable pub piece : ℕ → ℕ
  piece x = label (kept connects ls) x

  -- 1 if y is in no set and in the piece p, 0 if not
  unfoldable pub in_piece : ℕ → ℕ → ℕ
  in_piece p y = is (owner y) 0 * is (piece y) p

  -- the capacities of the links that leave the piece p, summed (02: the links leaving it)
  unfoldable pub leaving_piece : ℕ → ℕ
  leaving_piece p = sum (length ls) (λ j. differ (in_piece p (one ls j)) (in_piece p (two ls j)) * c j)

-- the number of sites in the set of a (01: count of sites in the set)
unfoldable pub set_count : ℕ → (ℕ → ℕ) → ℕ → ℕ
set_count n owner a = over (sites n) (λ x. is (owner x) a)

-- the sizes of the sets of all terminals, summed
unfoldable pub set_sizes : Links → ℕ → (ℕ → ℕ) → (ℕ → ℕ) → (ℕ → ℕ) → ℕ
set_sizes ls n terminal c owner = over (sites n) (λ a. is (terminal a) 1 * set_size ls c owner a)

-- the number of odd pieces, each counted at the site that tells it (02: odd if the links leaving it sum to an odd number)
unfoldable pub odd_pieces : Links → ℕ → (ℕ → ℕ) → (ℕ → ℕ) → ℕ
odd_pieces ls n c owner = over (sites n) (λ p. in_piece ls c owner p p * (leaving_piece ls c owner p % 2))

-- ---- what Card 2 asks

-- loads x and sets of which all that the card says holds: the loads are those of whole plans, no plan in whole circuits that fits has a greater total than
-- they bring to the terminals, the sets are end sets, and set sizes less odd pieces equal that total (004, theorem 2)
pub record LargestWhole (ls : Links) (n : ℕ) (terminal c x owner : ℕ → ℕ) : Type 0 where
  pub loads : WholeLoads ls n terminal c x
  pub largest : (es : List Pair) → WholePlan ls n terminal c es → total es ≤ at_terminals ls n terminal x
  pub sets : EndSets n terminal owner
  pub sizes : set_sizes ls n terminal c owner ≡ at_terminals ls n terminal x + odd_pieces ls n c owner
