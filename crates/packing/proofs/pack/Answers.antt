-- `pack` meets its contract, case by case.
use Rattle.std.proofs.Common.{sym, ap, ◌∙◌}
use Rattle.packing.specs.Packed.{packed}
use Rattle.packing.proofs.pack.Goals as goal

pub returns-in-Ok : goal.returns-in-Ok
unfolding packed
returns-in-Ok c = sym (ap packed c.in-Ok.is)

pub returns-in-Err : goal.returns-in-Err
unfolding packed
returns-in-Err c = c.pack_refusal.ensures ∙ sym (ap packed c.in-Err.is)
