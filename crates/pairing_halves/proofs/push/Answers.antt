-- `push`: nothing is added, or one entry.
use Rattle.std.proofs.Common.{arith}
use Rattle.model.specs.Pairing.{put}
use Rattle.pairing_halves.specs.Adding.{added-nothing, added_one}
use Rattle.pairing_halves.specs.Splits.{put_some}
use Rattle.pairing_halves.proofs.push.Goals as goal

pub returns-then-amount-eq0 : goal.returns-then-amount-eq0
unfolding put
returns-then-amount-eq0 c = rw c.if-amount-eq0.true (added-nothing c.args.list.now c.args.end)

pub returns : goal.returns
returns c = rw (put_some c.args.site c.args.amount _ (omega arith)) (added_one c.args.list.now c.args.end (c.args.site, c.args.amount) (omega arith))
