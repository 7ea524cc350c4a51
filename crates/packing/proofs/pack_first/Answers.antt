-- `pack_first` meets its contract, case by case.
use Rattle.std.proofs.Common.{sym, ap, ◌∙◌}
use Rattle.packing.specs.PackedSides.{packed_first}
use Rattle.packing.proofs.pack_first.Goals as goal

pub returns-in-Ok : goal.returns-in-Ok
unfolding packed_first
returns-in-Ok c = sym (ap packed_first c.in-Ok.is)

pub returns-in-Err : goal.returns-in-Err
unfolding packed_first
returns-in-Err c = c.pack_refusal.ensures ∙ sym (ap packed_first c.in-Err.is)
