-- `end_at` meets its contract: a marked site is an end, another one by its links.
use Rattle.std.proofs.Common.{◌≡◌, ◌≢◌, sym, ◌∙◌, arith}
use Rattle.lists.specs.Sums.{pick_same, pick_other}
use Rattle.model.specs.Flows.{mark, end_at}
use Rattle.tree_links.proofs.end_at.Goals as goal

pub returns-then-mark_at-eq1 : goal.returns-then-mark_at-eq1
unfolding end_at
returns-then-mark_at-eq1 c =
    let marked : mark c.args.marks.now c.args.v ≡ 1 = omega arith in
    sym (pick_same marked 1 _)

pub returns : goal.returns
unfolding end_at
returns c =
    let unmarked : mark c.args.marks.now c.args.v ≢ 1 = omega arith in
    c.leaf_at.ensures ∙ sym (pick_other unmarked 1 _)
