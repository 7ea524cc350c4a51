-- The next member from p up: what is still to be found, from bit k of word i up, is what was to be found from p up.
use Rattle.std.proofs.Common.{◌≡◌, ◌+◌, ◌*◌, ◌-◌, ◌<◌}
use Rattle.model.specs.Limits.{WORDS}
use Rattle.tree_sets.proofs.Words.{rest}
use Rattle.tree_sets.proofs.Set.next.Given as goal

abbrev pub invariant-loop-i : goal.invariant-loop-i
invariant-loop-i l = record {
  bit : l.k < 64;
  same : rest l.self l.p ≡ rest l.self (l.i * 64 + l.k);
}

abbrev pub decreases-loop-i : goal.decreases-loop-i
decreases-loop-i l = WORDS - l.i
