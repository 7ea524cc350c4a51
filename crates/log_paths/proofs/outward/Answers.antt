-- `outward`: before the first turn no row is made.
use Rattle.log_paths.proofs.Spreading.{spread-start}
use Rattle.log_paths.proofs.outward.Goals as goal

pub loop-i-init : goal.loop-i-init
loop-i-init c = spread-start c.args.n c.args.order.now c.args.parent.now c.args.up.now
