-- The line lies within its buffer, and is what goes to standard output.
use Rattle.std.proofs.Common.{arith, subst}
use Rattle.std.specs.Io.KnownBytes.{Appends}
use Rattle.text_refusals.proofs.Lines.{line_is_at_front}
use Rattle.text_refusals.proofs.refuse_in_words.Goals as goal

pub returns : goal.returns
returns g c went = subst (Appends _ _) (line_is_at_front _ _ _ _ c.write_refusal-length.ensures.0 (omega (arith, c.write_refusal-length.ensures.1))) (c.tell.ensures went)
