-- Each turn goes on behind the part that it took.
use Rattle.std.proofs.Common.{length, ◌-◌}
use Rattle.sheet_test.proofs.trials.Given as goal

abbrev pub decreases-loop-from : goal.decreases-loop-from
decreases-loop-from g l = length l.text - l.from
