-- The odd pieces counted along the order of the sites: a piece is counted at its first site, seen from the root.
use Rattle.std.specs.Prelude.{ℕ, ◌+◌, ◌%◌}
use Rattle.lists.specs.Numbers.{pick}

module _ (parent c most owner : ℕ → ℕ) where
  -- 1 at a site in no set whose parent is in a set or whose link to the parent has capacity 0, where `most` and that capacity sum to an odd number;
  -- c: the capacity of the link from each site to its parent, 0 at the root
  unfoldable pub odd_at : ℕ → ℕ
  odd_at v = let odd = (most v + c v) % 2 in pick (owner v) 0 (pick (owner (parent v)) 0 (pick (c v) 0 odd 0) odd) 0
