-- The first member in the words from one up: no word before q has a member.
use Rattle.std.proofs.Common.{◌≢◌, ℕ, ◌*◌, ◌≤◌, ◌<◌}
use Rattle.tree_sets.specs.Walks.{within}
use Rattle.tree_sets.proofs.later.Given as goal

abbrev pub invariant-loop-q : goal.invariant-loop-q
invariant-loop-q l = (j : ℕ) → l.from * 64 ≤ j → j < l.q * 64 → within l.words j ≢ 1
