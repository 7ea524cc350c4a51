-- `order_network`: the tree is that of the network.
use Rattle.std.proofs.Common.{sym, ap, ◌∙◌}
use Rattle.std.proofs.Math.Path.{ap₂}
use Rattle.model.specs.Trimming.{elimination}
use Rattle.planner.specs.Taken.{the_lists_are_taken_apart, the_marks_are_taken_apart, the_network_is_a_marked_tree, the_links_are_the_networks}
use Rattle.orders.specs.Outcome.{store}
use Rattle.orders.specs.Stored.{accepted_is_stored}
use Rattle.orders.proofs.order_network.Goals as goal

pub tree_of-requires : goal.tree_of-requires
tree_of-requires c = rw (the_marks_are_taken_apart c.requires) (the_network_is_a_marked_tree (the_lists_are_taken_apart c.requires))

pub returns : goal.returns
returns c =
    let l = c.args.list.now in
    let a = the_lists_are_taken_apart c.requires in
    let t = c.tree_of.ensures in
    let e = ap₂ (λ ls n. store (elimination ls n) l) (the_links_are_the_networks a) a.counted ∙ sym (accepted_is_stored c.args.sheet.now l a.net a.read) in
    let told = rw (t.sites, t.one, t.two) at c.order_tree.ensures.told in
    let left = rw (t.sites, t.one, t.two) at c.order_tree.ensures.left in
    record { told = told ∙ ap (λ o. o.outcome) e; left = left ∙ ap (λ o. o.list) e }
