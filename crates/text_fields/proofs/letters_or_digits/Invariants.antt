-- The invariant: all bytes pass just if those before place i did and those from i on do.
use Rattle.std.proofs.Common.{◌≡◌, ◌&&◌, drop}
use Rattle.text_fields.specs.Fields.{all, is_letter_or_digit}
use Rattle.text_fields.proofs.letters_or_digits.Given as goal

abbrev pub invariant-loop-b : goal.invariant-loop-b
invariant-loop-b l = all is_letter_or_digit l.s ≡ (l.good && all is_letter_or_digit (drop l.b-index l.s))
