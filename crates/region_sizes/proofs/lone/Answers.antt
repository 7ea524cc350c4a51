-- `lone`: no mark, and just one link.
use Rattle.std.proofs.Common.{◌≡◌, ◌≢◌, ◌-◌, eqb, ne_eqb, sym, ap, ◌∙◌, arith}
use Rattle.lists.specs.Numbers.{look}
use Rattle.tree_links.specs.Chains.{offer-placed}
use Rattle.region_sizes.specs.Laws.{a-marked-site-is-not-lone, a-leaf-without-a-mark-is-lone}
use Rattle.region_sizes.proofs.lone.Goals as goal

pub is_leaf-requires : goal.is_leaf-requires
is_leaf-requires c = offer-placed c.args.tree.within.within

pub returns-then-tree-v-eq1 : goal.returns-then-tree-v-eq1
returns-then-tree-v-eq1 c =
    let t = c.args.tree in
    let marked : look t.marks.now (c.args.v - 1) ≡ 1 = omega arith in
    sym (ne_eqb _ 1 (a-marked-site-is-not-lone t.sites t.one.now t.two.now t.marks.now t.capacity.now c.args.v c.requires.0 marked))

pub returns : goal.returns
returns c =
    let t = c.args.tree in
    let unmarked : look t.marks.now (c.args.v - 1) ≢ 1 = omega arith in
    c.is_leaf.ensures ∙ ap (λ x. eqb x 1) (a-leaf-without-a-mark-is-lone t.sites t.one.now t.two.now t.marks.now t.capacity.now c.args.v c.requires.0 unmarked)
