-- `owner_of` meets its contract, by its tests.
use Rattle.std.proofs.Common.{◌≡◌, ◌≢◌, refl, arith}
use Rattle.std.proofs.Math.Logic.{if_pos, if_neg}
use Rattle.std.proofs.Math.Decide.{dec_le}
use Rattle.lists.specs.Sums.{pick_same, pick_other}
use Rattle.model.specs.WholeLoads.{owner_at}
use Rattle.whole_notes.proofs.owner_of.Goals as goal

pub returns-then-on-eq1 : goal.returns-then-on-eq1
unfolding owner_at
returns-then-on-eq1 c =
    let on : c.args.on ≡ 1 = omega arith in
    rw (pick_same on) refl

pub returns-then-most-capacity : goal.returns-then-most-capacity
unfolding owner_at
returns-then-most-capacity c =
    let off : c.args.on ≢ 1 = omega arith in
    rw (pick_other off, if_pos (dec_le c.args.most c.args.capacity) (omega arith)) refl

pub returns : goal.returns
unfolding owner_at
returns c =
    let off : c.args.on ≢ 1 = omega arith in
    rw (pick_other off, if_neg (dec_le c.args.most c.args.capacity) (λ h. omega arith)) refl
