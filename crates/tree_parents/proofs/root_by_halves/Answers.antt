-- `root_by_halves` meets its contract: each turn goes up by two parents, and shortens the way by one.
use Rattle.std.proofs.Common.{◌≤◌, ◌∙◌, arith}
use Rattle.lists.specs.Numbers.{look}
use Rattle.tree_parents.specs.Roots.{shorter_more, shorter_step}
use Rattle.tree_parents.proofs.root_by_halves.Goals as goal

pub loop-x-preserved : goal.loop-x-preserved
loop-x-preserved c =
    let parents = c.loop-x.parents in
    let x = c.loop-x.x in
    let s = c.loop-x.invariant.1 in
    let up : look parents x ≤ x = s.lower x in
    let further : look parents (look parents x) ≤ look parents x = s.lower (look parents x) in
    rw (c.from-x.ensures, c.from-in-loop-x.ensures) (
      omega arith,
      shorter_more s (shorter_step parents x s.lower (omega (arith, s.long))),
      λ label t. let now = s.tells label t in
          now.along (look parents x) (omega (arith, s.long)) ∙ now.along x (omega (arith, s.long)) ∙ c.loop-x.invariant.2 label t,
    )
