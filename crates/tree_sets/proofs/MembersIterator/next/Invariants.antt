-- The next member: the members that are still to come stay the same while words without any are passed over.
use Rattle.std.proofs.Common.{◌≡◌, ◌-◌, ◌<◌}
use Rattle.model.specs.Limits.{WORDS}
use Rattle.tree_sets.specs.Walks.{still}
use Rattle.tree_sets.proofs.MembersIterator.next.Given as goal

abbrev pub invariant-loop-self : goal.invariant-loop-self
invariant-loop-self l = record {
  inside : l.self-inside.word < WORDS;
  words : l.self-inside.words ≡ l.initial.self-inside.words;
  same : still l.initial.self-inside.words.now l.initial.self-inside.word l.initial.self-inside.left ≡ still l.self-inside.words.now l.self-inside.word l.self-inside.left;
}

abbrev pub decreases-loop-self : goal.decreases-loop-self
decreases-loop-self l = WORDS - l.self-inside.word
