-- What the lines of a plan drawn by hand come to: the lowest line with a number, or the entries of all; and what holds of the entries. By induction over the
-- lines: a line is answered by the entries of those before it.
use Rattle.std.specs.Prelude.{◌≡◌, ◌≢◌, List, [], ◌∷◌, ℕ, ◌≤◌, ◌<◌, length, take}
use Rattle.lists.specs.Numbers.{Each}
use Rattle.model.specs.Limits.{AMOUNT}
use Rattle.model.specs.Booking.{places_of, Entry}
use Rattle.model.specs.declared.Pair.{Pair}
use Rattle.model.specs.declared.Request.{Request}
use Rattle.theory_log.specs.Pairs.{Sites}
use Rattle.theory_log.specs.Logs.{line}
use Rattle.theory_verdicts.specs.HandPlan.{line_answer, entered}

-- ---- line by line

-- the entries of some lines, after es
unfoldable pub drawn : List Pair → List Request → List Pair
drawn es [] = es
drawn es (r ∷ rs) = drawn (entered es r) rs

-- the answer to the line at place p, by the entries of the lines before it
abbrev pub answer_at : List Pair → List Request → ℕ → ℕ
answer_at es rs p = line_answer (drawn es (take p rs)) (line rs p)

-- the lowest line with a number, if there is one
pub record Lowest (es : List Pair) (rs : List Request) : Type 0 where
  pub place : ℕ
  pub here : place < length rs
  pub some : answer_at es rs place ≢ 0
  pub none_before : (q : ℕ) → q < place → answer_at es rs q ≡ 0

-- ---- what holds of the entries

-- entries of amounts within the limit between two sites that have P, the lower one first, and no pair twice
pub record Drawn (n : ℕ) (P : ℕ → ℕ → Type 0) (es : List Pair) : Type 0 where
  pub proper : Each (Entry n) es
  pub limited : Each (λ e. e.amount ≤ AMOUNT) es
  pub sites : Each (Sites P) es
  pub once : (a b : ℕ) → places_of a b es ≤ 1

-- ---- amounts stay small
