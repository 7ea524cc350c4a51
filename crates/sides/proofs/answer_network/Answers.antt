-- `answer_network`: the lists are lent as a tree; then the link, the number and the places, and what is given.
use Rattle.std.proofs.Common.{length, sym, ap, ◌∙◌}
use Rattle.exchanges.proofs.Taken.{the_lists_are_taken, the_tree_is_taken, names_are_distinct}
use Rattle.sides.specs.Outcome.{answered_as}
use Rattle.sides.proofs.OverNetwork.{no_link_is_given_nothing, a_larger_number_is_given_nothing, a_shorter_list_is_given_nothing, the_answer_is_given}
use Rattle.sides.proofs.answer_network.Goals as goal

pub tree_of-tree-requires : goal.tree_of-tree-requires
tree_of-tree-requires c = (the_lists_are_taken c.requires).tree

pub named_link-link-requires : goal.named_link-link-requires
named_link-link-requires c =
    let t = c.tree_of-tree.ensures in
    let T = the_tree_is_taken c.requires c.tree_of-tree.result t.sites t.one t.two t.marks t.capacity in
    names_are_distinct T

pub returns-then-link-count : goal.returns-then-link-count
returns-then-link-count c =
    let a = c.args in
    let t = c.tree_of-tree.ensures in
    let T = the_tree_is_taken c.requires c.tree_of-tree.result t.sites t.one t.two t.marks t.capacity in
    let e = no_link_is_given_nothing T a.name.now a.name2.now _ c.named_link-link.ensures a.number a.sizes.now c.if-link-count.true in
    record { told = sym (ap (λ o. o.outcome) e); left = sym (ap (λ o. o.list) e) }

pub returns-then-number-tree : goal.returns-then-number-tree
returns-then-number-tree c =
    let a = c.args in
    let t = c.tree_of-tree.ensures in
    let T = the_tree_is_taken c.requires c.tree_of-tree.result t.sites t.one t.two t.marks t.capacity in
    let e = a_larger_number_is_given_nothing T a.name.now a.name2.now _ c.named_link-link.ensures a.number a.sizes.now
    c.if-link-count.false c.if-number-tree.true in
    record { told = sym (ap (λ o. o.outcome) e); left = sym (ap (λ o. o.list) e) }

pub returns-then-sizes-count : goal.returns-then-sizes-count
returns-then-sizes-count c =
    let a = c.args in
    let t = c.tree_of-tree.ensures in
    let T = the_tree_is_taken c.requires c.tree_of-tree.result t.sites t.one t.two t.marks t.capacity in
    let e = a_shorter_list_is_given_nothing T a.name.now a.name2.now _ c.named_link-link.ensures a.number a.sizes.now
    c.if-link-count.false c.if-number-tree.false c.if-sizes-count.true in
    record { told = sym (ap (λ o. o.outcome) e); left = sym (ap (λ o. o.list) e) }

pub returns : goal.returns
returns c =
    let a = c.args in
    let t = c.tree_of-tree.ensures in
    let T = the_tree_is_taken c.requires c.tree_of-tree.result t.sites t.one t.two t.marks t.capacity in
    let e = the_answer_is_given T a.name.now a.name2.now _ c.named_link-link.ensures a.number a.sizes.now
    c.if-link-count.false c.if-number-tree.false c.if-sizes-count.false in
    record {
      told = ap (answered_as (length c.tree_of-tree.result.one.now)) c.give-sum.ensures.told ∙ sym (ap (λ o. o.outcome) e);
      left = c.give-sum.ensures.left ∙ sym (ap (λ o. o.list) e);
    }
