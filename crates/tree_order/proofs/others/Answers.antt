-- `others` meets its contract: of the numbers up to n only 0 is no site.
use Rattle.std.proofs.Common.{arith}
use Rattle.lists.specs.Places.{count_low}
use Rattle.theory_trees.specs.Sites.{sites_once}
use Rattle.tree_order.proofs.others.Goals as goal

pub returns-then-root-eq0 : goal.returns-then-root-eq0
returns-then-root-eq0 c = omega (arith, count_low 1 c.args.n c.args.root (omega arith))

pub returns-else-root-eq0 : goal.returns-else-root-eq0
returns-else-root-eq0 c = omega (arith, sites_once c.args.n c.args.root (omega arith, omega arith))
