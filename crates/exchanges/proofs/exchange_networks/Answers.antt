-- `exchange_networks`: by the partners it is decided whether one link is shared, and over that link the answers are delivered.
use Rattle.std.proofs.Common.{sym, ap, ◌∙◌, arith}
use Rattle.exchanges.proofs.Taken.{partners_are_sites, apart-is-told, shared_is_told, shared_is_a_link}
use Rattle.exchanges.proofs.Taken.{names_are_distinct, the_lists_are_taken, the_tree_is_taken}
use Rattle.exchanges.proofs.exchange_networks.Goals as goal

pub tree_of-tree-requires : goal.tree_of-tree-requires
tree_of-tree-requires c = (the_lists_are_taken c.requires.0).tree

pub tree_of-tree2-requires : goal.tree_of-tree2-requires
tree_of-tree2-requires c = (the_lists_are_taken c.requires.1).tree

pub partners-partners-requires : goal.partners-partners-requires
partners-partners-requires c =
    let e = c.tree_of-tree.ensures in
    let f = c.tree_of-tree2.ensures in
    let W = the_tree_is_taken c.requires.1 c.tree_of-tree2.result f.sites f.one f.two f.marks f.capacity in
    let T = the_tree_is_taken c.requires.0 c.tree_of-tree.result e.sites e.one e.two e.marks e.capacity in
    (omega (arith, T.tree.within.few), omega (arith, W.tree.within.few), names_are_distinct W)

pub sharing-requires : goal.sharing-requires
sharing-requires c =
    let e = c.tree_of-tree.ensures in
    let f = c.tree_of-tree2.ensures in
    let T = the_tree_is_taken c.requires.0 c.tree_of-tree.result e.sites e.one e.two e.marks e.capacity in
    let W = the_tree_is_taken c.requires.1 c.tree_of-tree2.result f.sites f.one f.two f.marks f.capacity in
    partners_are_sites T W c.partners-partners.result c.partners-partners.ensures

pub deliver-requires : goal.deliver-requires
deliver-requires c =
    let e = c.tree_of-tree.ensures in
    let f = c.tree_of-tree2.ensures in
    let T = the_tree_is_taken c.requires.0 c.tree_of-tree.result e.sites e.one e.two e.marks e.capacity in
    let W = the_tree_is_taken c.requires.1 c.tree_of-tree2.result f.sites f.one f.two f.marks f.capacity in
    shared_is_a_link T W c.partners-partners.result c.partners-partners.ensures _ c.in-Some.ensures

pub returns-in-None : goal.returns-in-None
returns-in-None c =
    let a = c.args in
    let e = c.tree_of-tree.ensures in
    let f = c.tree_of-tree2.ensures in
    let T = the_tree_is_taken c.requires.0 c.tree_of-tree.result e.sites e.one e.two e.marks e.capacity in
    let W = the_tree_is_taken c.requires.1 c.tree_of-tree2.result f.sites f.one f.two f.marks f.capacity in
    let o = apart-is-told T W c.partners-partners.result c.partners-partners.ensures a.sizes.now a.sizes2.now c.in-None.ensures in
    record { told = sym (ap (λ p. p.outcome) o); left = sym (ap (λ p. p.first) o); left2 = sym (ap (λ p. p.second) o) }

pub returns-in-Some : goal.returns-in-Some
returns-in-Some c =
    let a = c.args in
    let e = c.tree_of-tree.ensures in
    let f = c.tree_of-tree2.ensures in
    let T = the_tree_is_taken c.requires.0 c.tree_of-tree.result e.sites e.one e.two e.marks e.capacity in
    let W = the_tree_is_taken c.requires.1 c.tree_of-tree2.result f.sites f.one f.two f.marks f.capacity in
    let o = shared_is_told T W c.partners-partners.result c.partners-partners.ensures a.sizes.now a.sizes2.now _ c.in-Some.ensures in
    record {
      told = c.deliver.ensures.told ∙ sym (ap (λ p. p.outcome) o);
      left = c.deliver.ensures.left ∙ sym (ap (λ p. p.first) o);
      left2 = c.deliver.ensures.left2 ∙ sym (ap (λ p. p.second) o);
    }
