-- The invariant: what the walk has gathered, frame by frame; the measure is how many turns are still owed.
use Rattle.pairing_walk.proofs.Framing.{Framed, owed}
use Rattle.pairing_walk.proofs.visit.Given as goal

abbrev pub invariant-loop-child : goal.invariant-loop-child
invariant-loop-child l =
    Framed l.ends l.chains.tree.one.now l.chains.tree.two.now l.capacity l.fn.ups l.fn.downs l.fn.pairs l.ups l.downs l.pairs l.done l.level l.root l.top l.frame l.frames

abbrev pub decreases-loop-child : goal.decreases-loop-child
decreases-loop-child l = owed l.ends l.chains.tree.one.now l.chains.tree.two.now l.capacity l.root l.level l.frame l.frames
