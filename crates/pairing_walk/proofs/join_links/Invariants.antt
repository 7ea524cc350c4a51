-- `join_links`: the pairs of the single links before j are added.
use Rattle.pairing_halves.specs.Arrays.{Added}
use Rattle.pairing_walk.specs.Visits.{singles_to}
use Rattle.pairing_walk.proofs.join_links.Given as goal

abbrev pub invariant-loop-j : goal.invariant-loop-j
invariant-loop-j l = Added l.fn.pairs l.from l.pairs l.end (singles_to l.j l.ends l.chains.tree.one.now l.chains.tree.two.now l.capacity)
