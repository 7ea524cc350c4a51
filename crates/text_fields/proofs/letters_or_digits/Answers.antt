-- `letters_or_digits` meets its contract: the test of one byte more is joined to that of those before it.
use Rattle.std.proofs.Common.{◌+◌, sym, ◌∙◌, arith, get_or, drop, drop_of_length-le}
use Rattle.std.proofs.Math.Bool.{and-true, and_assoc}
use Rattle.text_fields.specs.Fields.{all, is_letter_or_digit}
use Rattle.text_fields.specs.FieldLaws.{all_step}
use Rattle.text_fields.proofs.letters_or_digits.Goals as goal

pub loop-b-preserved : goal.loop-b-preserved
loop-b-preserved c =
    let s = c.args.s.now in
    let l = c.loop-b in
    l.invariant ∙ rw (all_step is_letter_or_digit s l.b-index (omega arith), c.is_letter_or_digit-good.ensures)
    (sym (and_assoc l.good (is_letter_or_digit (get_or s l.b-index 0)) (all is_letter_or_digit (drop (l.b-index + 1) s))))

pub returns : goal.returns
unfolding all
returns c = sym (c.loop-b.invariant ∙ rw (drop_of_length-le c.args.s.now {i = c.loop-b.b-index} (omega arith)) (and-true c.loop-b.good))
