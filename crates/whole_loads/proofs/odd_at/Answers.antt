-- `odd_at` meets its contract: the cases of the rule, one by one.
use Rattle.std.proofs.Common.{◌≡◌, ◌≢◌, sym, ◌∙◌, arith}
use Rattle.lists.specs.Sums.{pick_same, pick_other}
use Rattle.whole_loads.proofs.odd_at.Goals as goal

pub returns-then-owner-ne0 : goal.returns-then-owner-ne0
returns-then-owner-ne0 c =
    let owned : c.args.owner ≢ 0 = omega arith in
    sym (pick_other owned _ _)

pub returns-then-up-ne0 : goal.returns-then-up-ne0
returns-then-up-ne0 c =
    let free : c.args.owner ≡ 0 = omega arith in
    let below : c.args.up ≢ 0 = omega arith in
    sym (pick_same free _ _ ∙ pick_other below _ _)

pub returns-then-capacity-eq0 : goal.returns-then-capacity-eq0
returns-then-capacity-eq0 c =
    let free : c.args.owner ≡ 0 = omega arith in
    let top : c.args.up ≡ 0 = omega arith in
    let empty : c.args.capacity ≡ 0 = omega arith in
    sym (pick_same free _ _ ∙ pick_same top _ _ ∙ pick_same empty _ _)

pub returns : goal.returns
returns c =
    let free : c.args.owner ≡ 0 = omega arith in
    let top : c.args.up ≡ 0 = omega arith in
    let joined : c.args.capacity ≢ 0 = omega arith in
    sym (pick_same free _ _ ∙ pick_same top _ _ ∙ pick_other joined _ _)
