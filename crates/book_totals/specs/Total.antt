-- What links with sizes come to, as an entry of the exercise book: no tree, or a tree with its total.
-- Document 02, Card 13 (total in halves).
use Rattle.std.specs.Prelude.{◌≡◌, List, ℕ, suc, ◌≤◌, ◌<◌, length, Option, Some, None}
use Rattle.lists.specs.Numbers.{pick, look}
use Rattle.model.specs.Flows.{Links, sites}
use Rattle.tree.specs.Offer.{links}
use Rattle.theory_book.specs.Book.{joins_all, halves}
use Rattle.theory_book.specs.Trees.{Between}

-- one link less than 2 to 5 sites, between lower and higher numbers of sites, and as many sizes, each 0 to 2
pub record Few (n : ℕ) (one two sizes : List ℕ) : Type 0 where
  pub least : 2 ≤ n
  pub most : n ≤ 5
  pub firsts : n ≡ suc (length one)
  pub seconds : n ≡ suc (length two)
  pub sized : n ≡ suc (length sizes)
  pub small : (j : ℕ) → j < length sizes → look sizes j ≤ 2
  pub between : Between n (links one two)

-- the total where the links join all sites, and none where they are no tree
unfoldable pub total_of : ℕ → Links → List ℕ → Option ℕ
total_of n ls c = pick (joins_all ls (sites n)) 1 (Some (halves (record { sites = n; links = ls; sizes = c }))) None
