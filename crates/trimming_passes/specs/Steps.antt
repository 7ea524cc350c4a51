-- What the functions are given and give: steps on the way to the balanced capacities, for any terminals.
use Rattle.std.specs.Prelude.{◌≡◌, ◌≢◌, List, ◌++◌, reverse, ℕ, suc, ◌+◌, ◌≤◌, ◌<◌, length, take, drop}
use Rattle.model.specs.Limits.{PLACES, SITES}
use Rattle.lists.specs.Numbers.{look}
use Rattle.model.specs.Flows.{Links, at, sum_at}
use Rattle.model.specs.Trimming.{cut_sites, balanced_along}
use Rattle.tree.specs.Offer.{links}
use Rattle.tree_links.specs.Chains.{Placed, Summed, On}

-- an order of n sites, each of which has a place
pub record InPlaces (n : ℕ) (order : List ℕ) : Type 0 where
  pub each : length order ≡ n
  pub low : (i : ℕ) → i < n → look order i ≤ SITES

-- a link at v, counted from 1, or none, and no other link at v is heavy
pub record Middle (ls : Links) (v : ℕ) (t : ℕ → ℕ) (p : ℕ) : Type 0 where
  pub there : On ls v (length ls) p
  pub others : (j : ℕ) → j < length ls → at ls v j ≡ 1 → suc j ≢ p → t j + t j ≤ sum_at ls v t

-- links with a capacity each and none from a site to itself, and a list of what the links at each site carry together
pub record SumsKept (one two capacity sums : List ℕ) : Type 0 where
  pub placed : Placed one two
  pub apart : (j : ℕ) → j < length one → look one j ≢ look two j
  pub each : length one ≤ length capacity
  pub places : length sums ≡ PLACES
  pub summed : Summed (links one two) (look capacity) sums

-- an order of sites, and then back against it
unfoldable pub both_ways : List ℕ → List ℕ
both_ways o = o ++ reverse o

module _ (one two : List ℕ) (terminal : ℕ → ℕ) where
  -- a lent list whose first places, one for each link, are cut at the sites of a list in turn; the other places stay
  unfoldable pub cut_first : List ℕ → List ℕ → List ℕ
  cut_first vs l = cut_sites (links one two) terminal vs (take (length one) l) ++ drop (length one) l

  -- a lent list whose first places are balanced along an order; the other places stay
  unfoldable pub balanced_first : List ℕ → List ℕ → List ℕ
  balanced_first order l = balanced_along (links one two) terminal order (take (length one) l) ++ drop (length one) l
