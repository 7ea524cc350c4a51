-- `pack_verdict` meets its contract, case by case.
use mir.Val.{bool_byte}
use Rattle.std.proofs.Common.{◌≡◌, refl, Bool, true, false, cond, sym, ap, ◌∙◌}
use Rattle.packing.specs.Packed.{packed_verdict}
use Rattle.packing.proofs.pack_verdict.Goals as goal

-- a bool as a number
byte_is : (b : Bool) → bool_byte b ≡ cond b 1 0
byte_is true = refl
byte_is false = refl

pub returns-in-Ok : goal.returns-in-Ok
unfolding packed_verdict
returns-in-Ok c = rw (c.from.ensures, byte_is c.in-Ok.verdict.largest) (sym (ap packed_verdict c.in-Ok.is))

pub returns-in-Err : goal.returns-in-Err
unfolding packed_verdict
returns-in-Err c = c.pack_text_refusal.ensures ∙ sym (ap packed_verdict c.in-Err.is)
