-- `pack_side` meets its contract, case by case.
use Rattle.std.proofs.Common.{sym, ap, ◌∙◌}
use Rattle.packing.specs.PackedSides.{packed_side}
use Rattle.packing.proofs.pack_side.Goals as goal

pub returns-in-Ok : goal.returns-in-Ok
unfolding packed_side
returns-in-Ok c = sym (ap packed_side c.in-Ok.is)

pub returns-in-Err : goal.returns-in-Err
unfolding packed_side
returns-in-Err c = c.pack_refusal.ensures ∙ sym (ap packed_side c.in-Err.is)
