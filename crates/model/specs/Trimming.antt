-- Balanced capacities: what each link can really carry.
-- Document 01, "Plans, trimmed sizes, end sets" (heavy, trimmed sizes); the order of work is the one by which they are found.
use Rattle.std.specs.Prelude.{◌≡◌, ◌≢◌, List, [], ◌∷◌, map, reverse, ℕ, zero, suc, ◌+◌, ◌-◌, ◌*◌, ◌≤◌, ◌<◌, min, length}
use Rattle.std.proofs.Math.Logic.{ite}
use Rattle.std.proofs.Math.Decide.{dec_le}
use Rattle.lists.specs.Numbers.{pick, count, upfrom, look}
use Rattle.model.specs.Flows.{Links, Site, sites, one, two, at, sum_at, others, Below}

-- ---- the promise

-- link j is heavy at v: larger than all other links at v together (01: heavy)
abbrev pub Heavy : Links → (ℕ → ℕ) → ℕ → ℕ → Type 0
Heavy ls t v j = others ls v j t < t j

-- no link at v is heavy
abbrev pub Light : Links → ℕ → (ℕ → ℕ) → Type 0
Light ls v t = (j : ℕ) → j < length ls → at ls v j ≡ 1 → t j + t j ≤ sum_at ls v t

-- no inner site has a heavy link
abbrev pub Balanced : Links → (ℕ → ℕ) → (ℕ → ℕ) → Type 0
Balanced ls terminal t = (v : ℕ) → terminal v ≢ 1 → Light ls v t

-- t is the greatest, link by link, of the balanced capacities that pass c on no link (01: trimmed sizes)
pub record Greatest (ls : Links) (terminal c t : ℕ → ℕ) : Type 0 where
  pub below : Below ls t c
  pub balanced : Balanced ls terminal t
  pub greatest : (s : ℕ → ℕ) → Balanced ls terminal s → Below ls s c → Below ls s t

-- ---- cutting at a site

-- at an inner site v each link keeps no more than the other links at v have together; every other link keeps what it has
unfoldable pub cut_at : Links → (ℕ → ℕ) → ℕ → (ℕ → ℕ) → ℕ → ℕ
cut_at ls terminal v c j = pick (terminal v) 1 (c j) (pick (at ls v j) 1 (min (c j) (sum_at ls v c - c j)) (c j))

-- a list of capacities cut at one site, and at the sites of a list in turn
unfoldable pub cut_site : Links → (ℕ → ℕ) → ℕ → List ℕ → List ℕ
cut_site ls terminal v c = map (cut_at ls terminal v (look c)) (upfrom 0 (length ls))

unfoldable pub cut_sites : Links → (ℕ → ℕ) → List ℕ → List ℕ → List ℕ
cut_sites ls terminal [] c = c
cut_sites ls terminal (v ∷ vs) c = cut_sites ls terminal vs (cut_site ls terminal v c)

-- ---- the elimination order

-- 1 where both sites of link j are still to be taken, 0 where the link is visited
unfoldable pub unvisited : Links → List ℕ → ℕ → ℕ
unvisited ls us j = count us (one ls j) * count us (two ls j)

-- the first site of vs that has at most one unvisited link while us are still to be taken
unfoldable pub first : Links → List ℕ → List ℕ → ℕ
first ls us [] = 0
first ls us (v ∷ vs) = ite (dec_le (sum_at ls v (unvisited ls us)) 1) v (first ls us vs)

-- a list without the first v in it
unfoldable pub remove : ℕ → List ℕ → List ℕ
remove v [] = []
remove v (u ∷ us) = pick u v us (u ∷ remove v us)

-- the next k sites in the order taken, while us are still to be taken
unfoldable pub taken : Links → ℕ → List ℕ → List ℕ
taken ls zero us = []
taken ls (suc k) us = let v = first ls us us in v ∷ taken ls k (remove v us)

-- always the lowest-numbered untaken site with at most one unvisited link
unfoldable pub elimination : Links → ℕ → List ℕ
elimination ls n = taken ls n (sites n)

-- any order from outside inward: no site twice, and each with at most one link to later sites
abbrev pub Inward : Links → List ℕ → Type 0
Inward ls [] = Unit {0}
Inward ls (v ∷ vs) = (count vs v ≡ 0) × (sum_at ls v (unvisited ls (v ∷ vs)) ≤ 1) × Inward ls vs

-- such an order of the sites 1 .. n
pub record InwardOrder (ls : Links) (n : ℕ) (order : List ℕ) : Type 0 where
  pub inward : Inward ls order
  pub all : (x : ℕ) → Site n x → 1 ≤ count order x

-- ---- the balanced capacities

-- cut inward along an order, then back out against it
unfoldable pub balanced_along : Links → (ℕ → ℕ) → List ℕ → List ℕ → List ℕ
balanced_along ls terminal order c = cut_sites ls terminal (reverse order) (cut_sites ls terminal order c)

-- the balanced capacities (01: trimmed sizes), along the elimination order
unfoldable pub balanced : Links → ℕ → (ℕ → ℕ) → List ℕ → List ℕ
balanced ls n terminal c = balanced_along ls terminal (elimination ls n) c
