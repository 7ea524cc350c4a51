-- `high_of` meets its contract, by its test.
use Rattle.std.proofs.Common.{min, ap, sym, ◌∙◌, arith}
use Rattle.std.proofs.Math.Logic.{if_pos, if_neg}
use Rattle.std.proofs.Math.Decide.{dec_lt}
use Rattle.model.specs.WholeLoads.{highest}
use Rattle.whole_notes.proofs.high_of.Goals as goal

pub returns-then-capacity-least : goal.returns-then-capacity-least
unfolding highest
returns-then-capacity-least c = sym (if_pos (dec_lt c.args.capacity c.args.least) c.if-capacity-least.true _ _)

pub returns : goal.returns
unfolding highest
returns c =
    c.min.ensures ∙ ap (min c.args.most) c.saturating_sub.ensures ∙ sym (if_neg (dec_lt c.args.capacity c.args.least) (λ h. omega arith) _ _)
