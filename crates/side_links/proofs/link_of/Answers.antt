-- `link_of`: one site, no link between the two, then which of them may be far.
use Rattle.std.proofs.Math.Logic.{inl, inr}
use Rattle.std.proofs.Common.{sym, ◌∙◌, arith, eqb-true}
use Rattle.std.proofs.lemmas.Bool.{eqb-false}
use Rattle.region_sizes.specs.Offered.{a_tree_is_sited}
use Rattle.side_links.specs.LinkLaws.{both_are_sites}
use Rattle.side_links.proofs.LinkLaws.{no_link_is_told, the_link_is_told, none-is-far-is-told, one-site-is-told}
use Rattle.side_links.proofs.link_of.Goals as goal

pub returns-then-x-y : goal.returns-then-x-y
returns-then-x-y c = let t = c.args.tree in one-site-is-told (a_tree_is_sited t.within) t.capacity.now c.args.x c.args.y c.if-x-y.true

pub shared_second-link-requires : goal.shared_second-link-requires
shared_second-link-requires c = let w = c.args.tree.within.within in omega (arith, w.firsts, w.seconds)

pub returns-then-link-none : goal.returns-then-link-none
returns-then-link-none c =
    let t = c.args.tree in
    no_link_is_told (a_tree_is_sited t.within) t.capacity.now c.args.x c.args.y _ c.shared_second-link.ensures c.if-link-none.true

pub lone-requires : goal.lone-requires
lone-requires c = (both_are_sites (a_tree_is_sited c.args.tree.within) c.args.x c.args.y _ c.shared_second-link.ensures c.if-link-none.false).0

pub returns-then-lone : goal.returns-then-lone
returns-then-lone c =
    let t = c.args.tree in
    the_link_is_told (a_tree_is_sited t.within) t.capacity.now c.args.x c.args.y _ c.shared_second-link.ensures c.if-x-y.false
    (inl (eqb-true _ 1 (sym c.lone.ensures ∙ c.if-lone.true)))

pub lone-requires-2 : goal.lone-requires-2
lone-requires-2 c = (both_are_sites (a_tree_is_sited c.args.tree.within) c.args.x c.args.y _ c.shared_second-link.ensures c.if-link-none.false).1

pub returns-then-lone-2 : goal.returns-then-lone-2
returns-then-lone-2 c =
    let t = c.args.tree in
    the_link_is_told (a_tree_is_sited t.within) t.capacity.now c.args.x c.args.y _ c.shared_second-link.ensures c.if-x-y.false
    (inr (eqb-true _ 1 (sym c.lone-2.ensures ∙ c.if-lone-2.true)))

pub returns : goal.returns
returns c =
    let t = c.args.tree in
    none-is-far-is-told (a_tree_is_sited t.within) t.capacity.now c.args.x c.args.y _ c.shared_second-link.ensures
    (eqb-false _ 1 (sym c.lone.ensures ∙ c.if-lone.false)) (eqb-false _ 1 (sym c.lone-2.ensures ∙ c.if-lone-2.false))
