-- `order_tree`: the tree is accepted, so what is stored is its elimination order.
use Rattle.std.proofs.Common.{◌≡◌, ℕ, length, take, sym, ap, ◌∙◌, arith}
use Rattle.std.proofs.Math.ListN.{length-take}
use Rattle.model.specs.Edition.{largest}
use Rattle.model.specs.Trimming.{elimination}
use Rattle.theory_trees.specs.TreeTest.{length-elimination}
use Rattle.tree.specs.Offer.{links}
use Rattle.tree.specs.Accepted.{eliminated_in_order, a_tree_within_the_limits_is_accepted}
use Rattle.tree.specs.Elimination.{eliminated}
use Rattle.tree.specs.declared.Elimination.{Elimination}
use Rattle.tree.specs.declared.accepted.AcceptedTree.{AcceptedTree}
use Rattle.orders.specs.Outcome.{store}
use Rattle.orders.proofs.order_tree.Goals as goal

-- the first places of the answer are the elimination order
ordered : (t : AcceptedTree) (r : Elimination) → r ≡ eliminated t.sites t.one.now t.two.now t.marks.now t.capacity.now
    → take t.sites r.sites ≡ elimination (links t.one.now t.two.now) t.sites
ordered t r e =
    ap (λ r. take t.sites r.sites) e
    ∙ eliminated_in_order t.sites t.one.now t.two.now t.marks.now t.capacity.now (a_tree_within_the_limits_is_accepted largest _ _ _ _ _ t.within)

-- and there are as many as sites
counted : (t : AcceptedTree) (r : Elimination) → r ≡ eliminated t.sites t.one.now t.two.now t.marks.now t.capacity.now → length (take t.sites r.sites) ≡ t.sites
counted t r e = ap length (ordered t r e) ∙ length-elimination _ _

pub returns : goal.returns
returns c =
    let e = ordered c.args.tree c.eliminate.result c.eliminate.ensures in
    record { told = c.store.ensures.told ∙ ap (λ o. (store o c.args.list.now).outcome) e; left = c.store.ensures.left ∙ ap (λ o. (store o c.args.list.now).list) e }
