-- `Chains::of`: the first j links are chained.
use Rattle.tree_links.proofs.Chaining.{ChainedTo}
use Rattle.tree_links.proofs.Chains.of.Given as goal

abbrev pub invariant-loop-j : goal.invariant-loop-j
invariant-loop-j l = ChainedTo l.tree.one.now l.tree.two.now l.j l.last l.before
