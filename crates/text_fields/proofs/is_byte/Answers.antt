-- `is_byte` meets its contract: a string of one byte is compared by that byte, and one of another length is not the same.
use Rattle.std.proofs.Common.{sym, ap, arith, length}
use Rattle.text_fields.specs.FieldLaws.{not_same, same-one}
use Rattle.text_fields.proofs.is_byte.Goals as goal

pub returns-in-len1 : goal.returns-in-len1
returns-in-len1 c = sym (same-one _ _ (omega arith))

pub returns-in_default : goal.returns-in_default
returns-in_default c = sym (not_same _ _ (λ e. omega (arith, ap length e)))

pub returns-in_default-2 : goal.returns-in_default-2
returns-in_default-2 c = sym (not_same _ _ (λ e. omega (arith, ap length e)))
