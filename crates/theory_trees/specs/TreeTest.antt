-- The elimination order decides whether n sites with n - 1 links, none from a site to itself, are a tree.
-- In an order from outside inward each site adds at most one link to those behind it; with n - 1 links each adds one, and so is joined to them.
use Rattle.std.specs.Prelude.{◌≡◌, ◌≢◌, ℕ, zero, suc, ◌≤◌, ◌<◌, length}
use Rattle.std.proofs.Math.Path.{refl, ap}
use mathlib.Core.List.{List}
use Rattle.model.specs.Flows.{Links, Ends, Tree, sites, one, two}
use Rattle.model.specs.Trimming.{first, remove, taken, elimination, InwardOrder}
use Rattle.theory_trees.specs.InwardOrders.{the_order_joins_all}

module _ (ls : Links) (apart : (i : ℕ) → i < length ls → one ls i ≢ two ls i) where
  -- n - 1 links are a tree if some order takes the n sites, each with at most one link to later sites
  pub an_inward_order_makes_a_tree : {n : ℕ} → 2 ≤ n → Ends ls n → n ≡ suc (length ls)
      → (order : List ℕ) → length order ≡ n → InwardOrder ls n order → Tree ls n
  an_inward_order_makes_a_tree big ends links order len o = the_order_joins_all ls apart big ends links order len o

length_taken : (ls : Links) (k : ℕ) (us : List ℕ) → length (taken ls k us) ≡ k
unfolding taken
length_taken ls zero us = refl
length_taken ls (suc k) us = ap suc (length_taken ls k (remove (first ls us us) us))

-- the elimination order has n sites, whatever the links
pub length-elimination : (ls : Links) (n : ℕ) → length (elimination ls n) ≡ n
unfolding elimination
length-elimination ls n = length_taken ls n (sites n)
