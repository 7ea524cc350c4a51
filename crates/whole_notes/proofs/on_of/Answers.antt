-- `on_of` meets its contract, by its tests.
use Rattle.std.proofs.Common.{refl, arith}
use Rattle.std.proofs.Math.Logic.{if_pos, if_neg}
use Rattle.std.proofs.Math.Decide.{dec_lt, dec_le}
use Rattle.model.specs.WholeLoads.{on_way}
use Rattle.whole_notes.proofs.on_of.Goals as goal

pub returns-then-least-lt2 : goal.returns-then-least-lt2
unfolding on_way
returns-then-least-lt2 c = rw (if_neg (dec_le 2 c.args.least) (λ h. omega arith)) refl

pub returns-then-capacity-least : goal.returns-then-capacity-least
unfolding on_way
returns-then-capacity-least c =
    rw (if_pos (dec_le 2 c.args.least) (omega arith), if_pos (dec_lt c.args.capacity c.args.least) (omega arith)) refl

pub returns : goal.returns
unfolding on_way
returns c =
    rw (if_pos (dec_le 2 c.args.least) (omega arith), if_neg (dec_lt c.args.capacity c.args.least) (λ h. omega arith)) refl
