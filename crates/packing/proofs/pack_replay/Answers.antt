-- `pack_replay` meets its contract, case by case.
use Rattle.std.proofs.Common.{sym, ap, ◌∙◌}
use Rattle.packing.specs.Packed.{packed_replay}
use Rattle.packing.proofs.pack_replay.Goals as goal

pub returns-in-Ok : goal.returns-in-Ok
unfolding packed_replay
returns-in-Ok c = sym (ap packed_replay c.in-Ok.is)

pub returns-in-Err : goal.returns-in-Err
unfolding packed_replay
returns-in-Err c = c.pack_text_refusal.ensures ∙ sym (ap packed_replay c.in-Err.is)
