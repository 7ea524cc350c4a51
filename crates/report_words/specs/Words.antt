-- The refusals in words: the line that a program writes to standard error beside a refusal.
-- Document 01, the table of causes, and 02, Card 1, in plain words.
use Rattle.std.specs.Prelude.{List, [], ◌∷◌, ◌++◌, ℕ}
use Rattle.report_causes.specs.CauseWords.{place, cause}

-- the whole line
unfoldable pub words : ℕ → ℕ → List ℕ
words number l = place l ++ (cause number ++ (10 ∷ []))
