-- The count of a set: a word has as many members as bits that are set.
use Rattle.std.proofs.Common.{◌≡◌, ◌+◌, ◌*◌, slice_index_or, refl, arith}
use lib.Count.{ones-le}
use Rattle.lists.specs.Numbers.{sum}
use Rattle.tree_sets.proofs.Words.{count_word}
use Rattle.tree_sets.proofs.Set.count.Goals as goal

pub loop-word-init : goal.loop-word-init
unfolding sum
loop-word-init c = record { so_far = refl; small = omega arith }

pub loop-word-preserved : goal.loop-word-preserved
loop-word-preserved c =
    let s = c.args.self in
    let i = c.loop-word.word-index in
    let e : (i + 1) * 64 ≡ i * 64 + 64 = omega arith in
    let fits = c.loop-word-test.element_fits.fits in
    rw e (record {
      so_far = omega (arith, c.loop-word.invariant.so_far, count_word s i fits);
      small = omega (arith, c.loop-word.invariant.small, ones-le 64 (slice_index_or s.words i 0) fits);
    })
