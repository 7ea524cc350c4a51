-- The invariant: `seen` is 1 if one of the i places looked at has the number, 0 if not.
use Rattle.std.proofs.Common.{◌≡◌, ◌≤◌}
use Rattle.log_pairs.specs.Arrays.{BLOCK}
use Rattle.log_pairs.proofs.Among.{among}
use Rattle.log_pairs.proofs.in_block.Given as goal

abbrev pub invariant-loop-i : goal.invariant-loop-i
invariant-loop-i l = (l.i ≤ BLOCK) × (l.seen ≡ among l.pairs l.key l.at l.i)
