-- What the regions of an accepted pair are told and lent back: the trimmed sizes of the joined tree, and sums that added are its total in halves; and that of
-- the other sheet it depends on one number alone. Document 02, Card 10.
use Rattle.std.specs.Prelude.{◌≡◌, ℕ, ◌+◌, ◌<◌, length}
use Rattle.lists.specs.Numbers.{look}
use Rattle.model.specs.Flows.{Tree, total}
use Rattle.sheet.specs.Sheet.{Network}
use Rattle.theory_regions.specs.Regions.{Region, trimmed}
use Rattle.theory_regions.specs.TwoRegions.{Largest, plan_of}
use Rattle.exchanges.specs.Outcome.{first_of, second_of, Exchanged}

-- what the exchange o tells and leaves is what the tree t has, in which the links of the two sheets have the numbers link₁ and link₂
pub record OfTheWhole (net other : Network) (t : Region) (link₁ link₂ : ℕ → ℕ) (o : Exchanged) : Type 0 where
  pub tree : Tree t.links t.sites
  -- its trimmed sizes stand in the lists, link by link, in sheet order
  pub first-sizes : (i : ℕ) → i < length net.links → look o.first i ≡ look (trimmed t) (link₁ i)
  pub second-sizes : (k : ℕ) → k < length other.links → look o.second k ≡ look (trimmed t) (link₂ k)
  -- the two sums added are its total in halves, the largest however finely cut
  pub total-told : (first_of o.outcome).sum + (second_of o.outcome).sum ≡ total (plan_of t)
  pub largest : Largest t ((first_of o.outcome).sum + (second_of o.outcome).sum)

-- ---- one number of the other
