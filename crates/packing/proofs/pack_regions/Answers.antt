-- `pack_regions` meets its contract, case by case.
use Rattle.std.proofs.Common.{sym, ap, ◌∙◌}
use Rattle.packing.specs.Packed.{packed_regions}
use Rattle.packing.proofs.pack_regions.Goals as goal

pub returns-in-Ok : goal.returns-in-Ok
unfolding packed_regions
returns-in-Ok c = sym (ap packed_regions c.in-Ok.is)

pub returns-in-Err : goal.returns-in-Err
unfolding packed_regions
returns-in-Err c = c.pack_text_refusal.ensures ∙ sym (ap packed_regions c.in-Err.is)
