-- Both lines lie within the buffer.
use Rattle.std.proofs.Common.{arith, sym, length-take-le}
use Rattle.plan_words.specs.PlanWords.{words_judged_are_short}
use Rattle.judge.proofs.refuse.Goals as goal

pub slice_bounds-buf-end-then-went : goal.slice_bounds-buf-end-then-went
slice_bounds-buf-end-then-went g c = omega (arith, c.write_words-told.ensures.next, words_judged_are_short c.args.text c.args.number c.args.line (omega arith))

pub slice_bounds-write_all-end : goal.slice_bounds-write_all-end
slice_bounds-write_all-end g c =
    sym (length-take-le _ _ (omega (arith, c.write_words-told.ensures.next, words_judged_are_short c.args.text c.args.number c.args.line (omega arith))))
