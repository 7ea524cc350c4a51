-- A region trimmed again after the exchange: the shared link then has just the lesser of the two numbers. By lowering one link (Lowered).
use Rattle.lists.specs.Numbers.{look}
use Rattle.model.specs.Trimming.{Greatest}
use Rattle.theory_trees.proofs.Greatest.{balanced_is_greatest}
use Rattle.theory_regions.specs.Regions.{Region, ends_in, trimmed}
use Rattle.theory_regions.specs.JoinedTree.{Border, Bordered}

module _ {a : Region} {p : Border} (A : Bordered a p) where
  pub trimmed_is_greatest : Greatest a.links (ends_in a) (look a.capacities) (look (trimmed a))
  trimmed_is_greatest = balanced_is_greatest A.tree (ends_in a) a.capacities
