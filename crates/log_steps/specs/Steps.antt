-- What a request is answered from, and what it leaves: a tree with its table of paths, and arrays that hold the open pairs and the loads.
use Rattle.std.specs.Prelude.{◌≡◌, List, ℕ, ◌≤◌, length}
use Rattle.model.specs.Limits.{AMOUNT, SITES}
use Rattle.lists.specs.Numbers.{pick, look}
use Rattle.model.specs.Edition.{largest}
use Rattle.model.specs.Flows.{Links, load}
use Rattle.model.specs.Booking.{grow, shrink, answer_open, answer_give_up, answer, next, Entry, Kept}
use Rattle.model.specs.declared.Pair.{Pair}
use Rattle.model.specs.declared.Request.{Request}
use Rattle.tree.specs.Offer.{links}
use Rattle.tree.specs.Accepted.{TreeWithin}
use Rattle.log_paths.specs.Tables.{Table}
use Rattle.log_pairs.specs.Arrays.{pairs_of, Held}
use Rattle.log_pairs.specs.declared.OpenPairs.{OpenPairs}

-- a tree within the limits, with its table of paths
pub record Given (n : ℕ) (one two c rows : List ℕ) : Type 0 where
  pub within : TreeWithin largest n one two c
  pub table : Table (links one two) n rows

-- the arrays hold the open pairs es, and at place j the load of link j, 0 behind the links
pub record Holds (ls : Links) (es : List Pair) (ps : OpenPairs) (l : List ℕ) : Type 0 where
  pub pairs : Held es ps
  pub places : length l ≡ SITES
  pub loads : (j : ℕ) → look l j ≡ load ls es j

-- the open pairs of the arrays are ones that a replay keeps, and their loads stand beside them
pub record Standing (ls : Links) (n : ℕ) (c : ℕ → ℕ) (ps : OpenPairs) (l : List ℕ) : Type 0 where
  pub kept : Kept ls n c (pairs_of ps)
  pub holds : Holds ls (pairs_of ps) ps l

-- a request is answered, and the arrays hold what is open after it
pub record Answered (ls : Links) (c : ℕ → ℕ) (es : List Pair) (r : Request) (ps : OpenPairs) (l : List ℕ) (said : ℕ) : Type 0 where
  pub told : said ≡ answer ls c es r
  pub holds : Holds ls (next ls c es r) ps l

-- ---- a pair, its lower site first

-- what can be opened or given up
pub record Wanted (n : ℕ) (p : Pair) : Type 0 where
  pub entry : Entry n p
  pub limited : p.amount ≤ AMOUNT

-- a pair is opened or refused
pub record Opened (ls : Links) (c : ℕ → ℕ) (es : List Pair) (p : Pair) (ps : OpenPairs) (l : List ℕ) (said : ℕ) : Type 0 where
  pub told : said ≡ answer_open ls c es p
  pub holds : Holds ls (pick (answer_open ls c es p) 0 (grow p.first p.second p.amount es) es) ps l

-- a pair is given up or refused
pub record GivenUp (ls : Links) (c : ℕ → ℕ) (es : List Pair) (p : Pair) (ps : OpenPairs) (l : List ℕ) (said : ℕ) : Type 0 where
  pub told : said ≡ answer_give_up ls c es p
  pub holds : Holds ls (pick (answer_give_up ls c es p) 0 (shrink p.first p.second p.amount es) es) ps l
