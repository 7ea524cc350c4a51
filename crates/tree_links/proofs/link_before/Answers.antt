-- `link_before`: by its tests.
use Rattle.std.proofs.Common.{◌≡◌, ◌≢◌, sym, ◌∙◌, arith}
use Rattle.lists.specs.Numbers.{look}
use Rattle.lists.specs.Sums.{pick_same, pick_other}
use Rattle.tree_links.proofs.link_before.Goals as goal

pub returns-then-one-j : goal.returns-then-one-j
returns-then-one-j c =
    let first : look c.args.one.now c.args.j ≡ c.args.v = omega arith in
    sym (pick_same first _ _)

pub returns-then-two-j : goal.returns-then-two-j
returns-then-two-j c =
    let other : look c.args.one.now c.args.j ≢ c.args.v = omega arith in
    let second : look c.args.two.now c.args.j ≡ c.args.v = omega arith in
    sym (pick_other other _ _ ∙ pick_same second _ _)

pub returns : goal.returns
returns c =
    let other : look c.args.one.now c.args.j ≢ c.args.v = omega arith in
    let neither : look c.args.two.now c.args.j ≢ c.args.v = omega arith in
    sym (pick_other other _ _ ∙ pick_other neither _ _)
