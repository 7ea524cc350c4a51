-- The next member from p up: the trailing zeros of a word lead to it, and where no bit is set from k up the next word is looked at.
use Rattle.std.proofs.Common.{rules, Fits, w64, slice_index_or, ◌+◌, ◌*◌, sym, ◌∙◌, arith}
use Rattle.tree_sets.proofs.Words.{rest-none, next_here, next-later}
use Rattle.tree_sets.proofs.Set.next.Goals as goal

pub returns-then-left-ne0 : goal.returns-then-left-ne0
returns-then-left-ne0 c =
    let s = c.args.self in
    let l = c.loop-i in
    let fits : Fits w64 (slice_index_or s.words l.i 0) = search rules in
    sym (l.invariant.same ∙ (next_here s l.i l.k c.loop-i-test.true l.invariant.bit fits.fits c.if-left-ne0.true).1)

pub loop-i-preserved : goal.loop-i-preserved
loop-i-preserved c =
    let l = c.loop-i in
    record { bit = omega arith; same = l.invariant.same ∙ next-later c.args.self l.i l.k c.loop-i-test.true l.invariant.bit c.if-left-ne0.false }

pub returns : goal.returns
returns c = let l = c.loop-i in sym (l.invariant.same ∙ rest-none c.args.self (l.i * 64 + l.k) (omega arith))
