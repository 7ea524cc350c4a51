-- The elimination order decides whether links are a tree.
use Rattle.std.specs.Prelude.{◌≡◌, ◌≢◌, ◌↔◌, ℕ, suc, ◌≤◌, ◌<◌, length}
use Rattle.model.specs.Flows.{Links, Ends, Tree, one, two}
use Rattle.model.specs.Trimming.{elimination, InwardOrder}
use Rattle.theory_trees.proofs.Orders.{elimination_is_inward}
use Rattle.theory_trees.specs.TreeTest.{an_inward_order_makes_a_tree, length-elimination}

-- n - 1 links between different sites are a tree just if the elimination order takes every site, each with at most one link to later sites
pub tree_iff : (ls : Links) (n : ℕ) → 2 ≤ n → Ends ls n → n ≡ suc (length ls) → ((i : ℕ) → i < length ls → one ls i ≢ two ls i)
    → Tree ls n ↔ InwardOrder ls n (elimination ls n)
tree_iff ls n big ends links apart =
    (λ T. elimination_is_inward T, an_inward_order_makes_a_tree ls apart big ends links (elimination ls n) (length-elimination ls n))
