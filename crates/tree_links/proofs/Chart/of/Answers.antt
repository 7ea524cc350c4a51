-- `Chart::of`: the tree is accepted, so its order is the elimination order.
use Rattle.std.proofs.Common.{take, ap, ◌∙◌}
use Rattle.model.specs.Edition.{largest}
use Rattle.tree.specs.Accepted.{a_tree_within_the_limits_is_accepted, eliminated_in_order}
use Rattle.tree_links.proofs.Chart.of.Goals as goal

pub by-requires : goal.by-requires
by-requires c =
    let t = c.args.tree in
    let accepted = a_tree_within_the_limits_is_accepted largest t.sites t.one.now t.two.now t.marks.now t.capacity.now t.within in
    ap (λ r. take t.sites r.sites) c.eliminate.ensures ∙ eliminated_in_order t.sites t.one.now t.two.now t.marks.now t.capacity.now accepted
