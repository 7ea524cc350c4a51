-- `order_of` meets its contract: the elimination decides once the numbers are right, and a number above n is no root.
use Rattle.std.proofs.Common.{◌≡◌, sym, ap, ◌∙◌, arith, List, ℕ}
use Rattle.std.specs.Prelude.{Option, None, Some}
use Rattle.model.specs.Limits.{SITES}
use Rattle.tree_order.specs.Links.{links}
use Rattle.tree_order.specs.Toward.{elimination_toward, order_in}
use Rattle.tree_order.specs.Steps.{Proper, OrderToward}
use Rattle.tree_order.specs.Rooted.{without-a-root}
use Rattle.tree.specs.Offer.{is_tree}
use Rattle.tree.specs.Accepted.{is-tree-is-a-tree, a-tree-is-tree, is_false}
use Rattle.tree.specs.Steps.{Ordered, told, denied}
use Rattle.tree.proofs.Answers.{a_tree_is_proper}
use Rattle.tree.proofs.order_of.Goals as goal

-- where the numbers are right, there is an order just if the links make a tree
decided : (n root : ℕ) (a b : List ℕ) (r : Option (List ℕ)) → Proper n a b → OrderToward n a b root r → Ordered n a b root r
decided n root a b (Some order) p e =
    (a-tree-is-tree SITES n a b record { tree = e.0; few = p.few; firsts = p.firsts; seconds = p.seconds }, e.1)
decided n root a b None p e = is_false (is_tree SITES n a b) (λ t. e (is-tree-is-a-tree SITES n a b t).tree)

-- a number above n is no root, and neither is 0
no_root : (n root : ℕ) (a b : List ℕ) (r : Option (List ℕ)) → elimination_toward (links a b) n 0 ≡ elimination_toward (links a b) n root
    → OrderToward n a b 0 r → OrderToward n a b root r
no_root n root a b (Some order) same e = (e.0, e.1 ∙ ap (order_in n) same)
no_root n root a b None same e = e

pub returns-then-not-is_proper : goal.returns-then-not-is_proper
returns-then-not-is_proper c = let a = c.args in
    is_false (is_tree SITES a.n a.one.now a.two.now)
    (λ t. denied c.is_proper.result c.is_proper.ensures c.if-not-is_proper.true (a_tree_is_proper (is-tree-is-a-tree SITES a.n a.one.now a.two.now t)))

pub order_of-requires : goal.order_of-requires
order_of-requires c = (told c.is_proper.result c.is_proper.ensures c.if-not-is_proper.false, omega arith)

pub order_of-requires-2 : goal.order_of-requires-2
order_of-requires-2 c = (told c.is_proper.result c.is_proper.ensures c.if-not-is_proper.false, omega arith)

pub returns-then-n-root : goal.returns-then-n-root
returns-then-n-root c =
    let a = c.args in
    let ls = links a.one.now a.two.now in
    let same : elimination_toward ls a.n 0 ≡ elimination_toward ls a.n a.root
    = without-a-root ls a.n 0 (λ s. omega arith) ∙ sym (without-a-root ls a.n a.root (λ s. omega arith)) in
    decided a.n a.root a.one.now a.two.now c.order_of.result (told c.is_proper.result c.is_proper.ensures c.if-not-is_proper.false)
    (no_root a.n a.root a.one.now a.two.now c.order_of.result same c.order_of.ensures)

pub returns : goal.returns
returns c = decided c.args.n c.args.root c.args.one.now c.args.two.now c.order_of-2.result (told c.is_proper.result c.is_proper.ensures c.if-not-is_proper.false) c.order_of-2.ensures
