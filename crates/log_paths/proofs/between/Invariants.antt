-- `between`: the first q words are those of the two rows, set against each other.
use Rattle.std.proofs.Common.{◌≡◌, ℕ, ◌+◌, ◌*◌, ◌<◌, length, bit_xor}
use Rattle.model.specs.Limits.{WORDS}
use Rattle.lists.specs.Numbers.{look}
use Rattle.log_paths.proofs.between.Given as goal

abbrev pub invariant-loop-q : goal.invariant-loop-q
invariant-loop-q l =
    (length l.words ≡ WORDS)
    × ((p : ℕ) → p < l.q → look l.words p ≡ bit_xor (look l.rows (l.a * WORDS + p)) (look l.rows (l.b * WORDS + p)))
