-- After i sites the words have the places below i.
use Rattle.std.proofs.Common.{◌≡◌, ℕ, length}
use Rattle.model.specs.Limits.{SETS}
use Rattle.cuts_groups.specs.Groups.{labelled, in_words}
use Rattle.cuts_groups.proofs.sets.Given as goal

abbrev pub invariant-loop-i : goal.invariant-loop-i
invariant-loop-i l = (length l.words ≡ SETS) × ((m k : ℕ) → in_words l.words m k ≡ labelled l.i l.labels m k)
