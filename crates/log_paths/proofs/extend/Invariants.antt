-- `extend`: the first q words of the far row are made, and every other word is as it was.
use Rattle.std.proofs.Common.{◌+◌, ◌*◌, bit_xor}
use Rattle.model.specs.Limits.{WORDS}
use Rattle.lists.specs.Numbers.{look}
use Rattle.log_paths.specs.Rows.{single}
use Rattle.log_paths.proofs.Words.{Patch}
use Rattle.log_paths.proofs.extend.Given as goal

abbrev pub invariant-loop-q : goal.invariant-loop-q
invariant-loop-q l = Patch (λ i. bit_xor (look l.initial.rows (l.near * WORDS + i)) (single i l.j)) (l.far * WORDS) l.q l.initial.rows l.rows
