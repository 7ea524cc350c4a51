-- Both lines lie within their buffers, and the first is what goes to standard output.
use Rattle.std.proofs.Common.{arith, subst, sym, length-take-le}
use Rattle.std.specs.Io.KnownBytes.{Appends}
use Rattle.report_words.specs.Lengths.{words_are_short}
use Rattle.text_refusals.proofs.Lines.{line_is_at_front}
use Rattle.text_refusals.proofs.refuse.Goals as goal

pub slice_bounds-words-end : goal.slice_bounds-words-end
slice_bounds-words-end g c = omega (arith, c.write_words-told.ensures.next, words_are_short c.args.number c.args.line (omega arith))

pub slice_bounds-tell-end-2 : goal.slice_bounds-tell-end-2
slice_bounds-tell-end-2 g c = sym (length-take-le _ _ (omega (arith, c.write_words-told.ensures.next, words_are_short c.args.number c.args.line (omega arith))))

pub returns-clause-line : goal.returns-clause-line
returns-clause-line g c went = subst (Appends _ _) (line_is_at_front _ _ _ _ c.write_refusal-length.ensures.0 (omega (arith, c.write_refusal-length.ensures.1))) (c.tell.ensures went)
