-- Terminal cuts: the sites that a terminal reaches over links whose balanced capacity is below the given one.
-- Document 01, "Plans, trimmed sizes, end sets" (end set; its owner, size and count); document 02, Card 7 (end sets stop at other ends).
-- c: given capacities, t: balanced ones.
use Rattle.std.specs.Prelude.{List, [], ◌∷◌, ℕ, suc, ◌+◌, ◌*◌, length}
use Rattle.lists.specs.Numbers.{pick, is, differ, less, sum, over}
use Rattle.model.specs.Flows.{Links, sites, one, two, label}

-- the links j with u j = 1
unfoldable pub kept : (ℕ → ℕ) → Links → Links
kept u [] = []
kept u (l ∷ ls) = let rest = kept (λ j. u (suc j)) ls in pick (u 0) 1 (l ∷ rest) rest

module _ (ls : Links) (c t : ℕ → ℕ) where
  -- the label of x by the links whose balanced capacity is below the given one
  unfoldable pub group : ℕ → ℕ
  group x = label (kept (λ j. less (t j) (c j)) ls) x

  -- 1 if x is in the cut of terminal a, 0 if not (01: end set)
  unfoldable pub in_cut : ℕ → ℕ → ℕ
  in_cut a x = is (group x) (group a)

  -- the given capacities of the links with just one site in the cut, summed (01: size of a set)
  unfoldable pub cut_size : ℕ → ℕ
  cut_size a = sum (length ls) (λ j. differ (in_cut a (one ls j)) (in_cut a (two ls j)) * c j)

  -- the number of sites in the cut (01: count of sites in the set)
  unfoldable pub cut_count : ℕ → ℕ → ℕ
  cut_count n a = over (sites n) (λ x. in_cut a x)

  -- the first of the sites us that is a terminal whose cut holds x; 0 where there is none
  unfoldable pub owner_among : (ℕ → ℕ) → List ℕ → ℕ → ℕ
  owner_among terminal [] x = 0
  owner_among terminal (a ∷ us) x = pick (is (terminal a) 1 * in_cut a x) 1 a (owner_among terminal us x)

  -- the terminal whose cut holds x; 0 where none does (01: the end whose set holds it, or `-`)
  unfoldable pub owner : (ℕ → ℕ) → ℕ → ℕ → ℕ
  owner terminal n x = owner_among terminal (sites n) x

-- ---- stopping at other terminals

-- 1 if w is a terminal other than a, 0 if not
unfoldable pub foreign : (ℕ → ℕ) → ℕ → ℕ → ℕ
foreign terminal a w = is (terminal w) 1 * differ w a

module _ (ls : Links) (c t terminal : ℕ → ℕ) where
  -- 1 if neither site of link j is a terminal other than a, and its balanced capacity is below the given one, 0 if not
  unfoldable pub passable : ℕ → ℕ → ℕ
  passable a j = is (foreign terminal a (one ls j) + foreign terminal a (two ls j)) 0 * less (t j) (c j)

  -- 1 if x is in the cut of terminal a that stops at other terminals, 0 if not (02: end sets stop at ends other than their own)
  unfoldable pub in_stopped_cut : ℕ → ℕ → ℕ
  in_stopped_cut a x = let near = kept (passable a) ls in is (label near x) (label near a)
