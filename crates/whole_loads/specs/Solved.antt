-- What `solve` is given and gives: the loads, the end sets and the number of odd pieces of the report in whole circuits. Document 02, Card 2.
use Rattle.std.specs.Prelude.{◌≡◌, List, ◌++◌, ℕ, ◌+◌, ◌%◌, ◌≤◌, length, drop}
use Rattle.model.specs.Limits.{SITES}
use Rattle.lists.specs.Numbers.{pick, look}
use Rattle.model.specs.Flows.{Links, Site, leaf}
use Rattle.model.specs.Whole.{odd_pieces}
use Rattle.model.specs.WholeLoads.{whole_owner, whole_loads}

-- among the terminals is every site with one link
abbrev pub EndsAmong : Links → ℕ → (ℕ → ℕ) → Type 0
EndsAmong ls n terminal = (v : ℕ) → Site n v → leaf ls v ≡ 1 → terminal v ≡ 1

-- the loads stand at the front of the lent list, whose other places keep their values; each site has its owner; and r is the number of odd pieces
pub record Solved (ls : Links) (n : ℕ) (terminal c : ℕ → ℕ) (lent lent' owner : List ℕ) (r : ℕ) : Type 0 where
  pub loads : lent' ≡ whole_loads ls n terminal c ++ drop (length ls) lent
  pub owners : (x : ℕ) → look owner x ≡ whole_owner ls n terminal c x
  pub low : (x : ℕ) → look owner x ≤ SITES
  pub odd : r ≡ odd_pieces ls n c (whole_owner ls n terminal c)

-- 1 if an odd piece is counted at a site, by the owners of the site and of its parent, the sum of its children and the capacity above it
abbrev pub odd_by : ℕ → ℕ → ℕ → ℕ → ℕ
odd_by owner up most c = let odd = (most + c) % 2 in pick owner 0 (pick up 0 (pick c 0 odd 0) odd) 0
