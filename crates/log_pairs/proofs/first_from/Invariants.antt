-- `first_from`: no place before i has the number.
use Rattle.std.proofs.Common.{◌≢◌, ℕ, ◌≤◌, ◌<◌}
use Rattle.lists.specs.Numbers.{look}
use Rattle.log_pairs.proofs.first_from.Given as goal

abbrev pub invariant-loop-i : goal.invariant-loop-i
invariant-loop-i l = (k : ℕ) → l.at ≤ k → k < l.i → look l.pairs k ≢ l.key
