-- `is_number` meets its contract: by how many digits there are.
use Rattle.std.proofs.Common.{sym, ◌∙◌, arith}
use Rattle.text_fields.specs.FieldLaws.{number_has_a_digit, number_of_one, number_of_more}
use Rattle.text_fields.proofs.is_number.Goals as goal

pub returns-in-empty : goal.returns-in-empty
returns-in-empty c = sym (number_has_a_digit _ (omega arith))

pub returns-in-len1 : goal.returns-in-len1
returns-in-len1 c = c.is_digit.ensures ∙ sym (number_of_one _ (omega arith))

pub returns-then-digits_alone : goal.returns-then-digits_alone
returns-then-digits_alone c = sym (number_of_more _ (omega arith) ∙ rw (sym c.digits_alone.ensures ∙ c.if-digits_alone.true))

pub returns-else-digits_alone : goal.returns-else-digits_alone
returns-else-digits_alone c = sym (number_of_more _ (omega arith) ∙ rw (sym c.digits_alone.ensures ∙ c.if-digits_alone.false) (sym c.if-digits_alone.false))
