-- `OpenPairs::find`: no place before `at` has the pair.
use Rattle.std.proofs.Common.{◌≢◌, ℕ, ◌-◌, ◌≤◌, ◌<◌}
use Rattle.lists.specs.Numbers.{look}
use Rattle.log_pairs.proofs.OpenPairs.find.Given as goal

abbrev pub invariant-loop-at : goal.invariant-loop-at
invariant-loop-at l = (l.at ≤ l.self.count) × ((i : ℕ) → i < l.at → look l.self.pairs i ≢ l.key)

abbrev pub decreases-loop-at : goal.decreases-loop-at
decreases-loop-at l = l.self.count - l.at
