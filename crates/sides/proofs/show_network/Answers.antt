-- `show_network`: the lists are lent as a tree; then whether there is such a link, and its size.
use Rattle.std.proofs.Common.{sym, ap, ◌∙◌}
use Rattle.exchanges.proofs.Taken.{the_lists_are_taken, the_tree_is_taken, names_are_distinct}
use Rattle.sides.specs.Outcome.{shown_as}
use Rattle.sides.proofs.OverNetwork.{no_link_shows_nothing, a_link_shows_its_size}
use Rattle.sides.proofs.show_network.Goals as goal

pub tree_of-tree-requires : goal.tree_of-tree-requires
tree_of-tree-requires c = (the_lists_are_taken c.requires).tree

pub named_link-link-requires : goal.named_link-link-requires
named_link-link-requires c =
    let t = c.tree_of-tree.ensures in
    let T = the_tree_is_taken c.requires c.tree_of-tree.result t.sites t.one t.two t.marks t.capacity in
    names_are_distinct T

pub returns-then-link-tree : goal.returns-then-link-tree
returns-then-link-tree c =
    let a = c.args in
    let t = c.tree_of-tree.ensures in
    let T = the_tree_is_taken c.requires c.tree_of-tree.result t.sites t.one t.two t.marks t.capacity in
    sym (no_link_shows_nothing T a.name.now a.name2.now _ c.named_link-link.ensures c.if-link-tree.true)

pub first_size-requires : goal.first_size-requires
first_size-requires c = rw c.of.ensures c.if-link-tree.false

pub returns : goal.returns
returns c =
    let a = c.args in
    let t = c.tree_of-tree.ensures in
    let T = the_tree_is_taken c.requires c.tree_of-tree.result t.sites t.one t.two t.marks t.capacity in
    ap shown_as (rw c.of.ensures at c.first_size.ensures)
    ∙ sym (a_link_shows_its_size T a.name.now a.name2.now _ c.named_link-link.ensures c.if-link-tree.false)
