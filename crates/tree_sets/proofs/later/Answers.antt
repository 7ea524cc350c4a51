-- The first member in the words from one up: where word q has members, the lowest is the first, and where it has none, the next word is looked at.
use Rattle.std.proofs.Common.{rules, Fits, w64, slice_index_or, refl, arith}
use Rattle.tree_sets.proofs.Standing.{later-here, later-again}
use Rattle.tree_sets.proofs.later.Goals as goal

pub loop-q-init : goal.loop-q-init
loop-q-init c = λ j a l. absurd (omega arith)

pub returns-then-left-ne0 : goal.returns-then-left-ne0
returns-then-left-ne0 c =
    let a = c.args in
    let q = c.loop-q.q in
    let fits : Fits w64 (slice_index_or a.words.now q 0) = search rules in
    rw c.lowest.ensures (later-here a.words.now a.from q (slice_index_or a.words.now q 0) refl (omega arith) c.loop-q.invariant (omega arith) fits.fits c.if-left-ne0.true)

pub loop-q-preserved : goal.loop-q-preserved
loop-q-preserved c =
    let a = c.args in
    let q = c.loop-q.q in
    later-again a.words.now a.from q (slice_index_or a.words.now q 0) refl (omega arith) c.loop-q.invariant c.if-left-ne0.false

pub returns : goal.returns
returns c = record {
  from = omega arith;
  miss = λ j a l. c.loop-q.invariant j a (omega arith);
  stands = λ n. absurd (n refl);
  ended = λ z. refl;
}
