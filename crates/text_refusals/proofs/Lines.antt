-- The line that a writer has left at the front of a buffer.
use Rattle.std.proofs.Common.{◌≡◌, ℕ, ◌+◌, ◌≤◌, List, take, drop, length, ap, ◌∙◌, arith}
use Rattle.std.proofs.lemmas.List.{take_at}
use Rattle.std.proofs.lemmas.List.Edits.{sets-eq}
use Rattle.text_writers.specs.Wrote.{Wrote}

pub line_is_at_front : (before line after : List ℕ) (r : ℕ) → Wrote before 0 line after r → r ≤ length before → take r after ≡ line
line_is_at_front before line after r w fits =
    let lengths : length line ≡ r = omega (arith, w.next) in
    ap (take r) (w.stored ∙ sets-eq line before 0 (omega (arith, lengths))) ∙ take_at line (drop (0 + length line) before) r lengths
