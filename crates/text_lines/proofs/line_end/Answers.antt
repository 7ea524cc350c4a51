-- `line_end` meets its contract: the bytes passed are not 10, so the line from `end` on ends where the line from `at` on does.
use Rattle.std.proofs.Common.{◌≡◌, ◌≢◌, ⊎_elim, List, ℕ, ◌+◌, ◌<◌, length, drop, get_or, ◌∙◌, arith}
use Rattle.text_lines.specs.Lines.{line_length, line_end}
use Rattle.text_lines.specs.LineLaws.{line_length_step, sheet_from_the_start, two_bytes_on}
use Rattle.text_lines.proofs.line_end.Goals as goal

-- the line from `end` on ends where it should, and its first byte is 10, or its second one
first_is_ten : (s : List ℕ) (at end : ℕ) → end < length s → get_or s end 0 ≡ 10 → end + line_length (drop end s) ≡ line_end s at → end ≡ line_end s at
first_is_ten s at end l e h = ⊎_elim (λ t. omega (arith, t.1)) (λ t. absurd (t.0 e)) (line_length_step s end l)

second_is_ten : (s : List ℕ) (at end : ℕ) → end + 1 < length s → get_or s end 0 ≢ 10 → get_or s (end + 1) 0 ≡ 10
    → end + line_length (drop end s) ≡ line_end s at → end + 1 ≡ line_end s at
second_is_ten s at end l d e h =
    ⊎_elim (λ t. absurd (d t.0))
    (λ t. ⊎_elim (λ k. omega (arith, t.1, k.1)) (λ k. absurd (k.0 e)) (line_length_step s (end + 1) l))
    (line_length_step s end (omega arith))

pub loop-end-init : goal.loop-end-init
unfolding line_end
loop-end-init c =
    let over = c.pass_over-end.ensures in
    (over.0, over.1 ∙ rw (c.line_start.ensures, sheet_from_the_start))

-- The tests against 10 are left to `omega`, which finds them among the facts.
pub returns-then-sheet-end-eq10 : goal.returns-then-sheet-end-eq10
returns-then-sheet-end-eq10 c = first_is_ten _ _ _ (omega arith) (omega arith) c.loop-end.invariant.1

pub returns-then-sheet-end-eq10-2 : goal.returns-then-sheet-end-eq10-2
returns-then-sheet-end-eq10-2 c = second_is_ten _ _ _ (omega arith) (λ e. omega arith) (omega arith) c.loop-end.invariant.1

pub loop-end-preserved : goal.loop-end-preserved
loop-end-preserved c = (omega arith, two_bytes_on _ _ (omega arith) (λ e. omega arith) (λ e. omega arith) ∙ c.loop-end.invariant.1)
