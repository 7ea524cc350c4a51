-- How long the words are: the line of any refusal fits 130 bytes.
use Rattle.std.specs.Prelude.{[], ◌∷◌, ◌++◌, ℕ, ◌^◌, ◌≤◌, ◌<◌, length}
use Rattle.std.proofs.Common.{arith, length-append}
use Rattle.report_causes.specs.CauseWords.{place, cause}
use Rattle.report_causes.specs.CauseLengths.{place-length, cause-length}
use Rattle.report_words.specs.Words.{words}

-- the line of any refusal
pub words_are_short : (number l : ℕ) → l < 2 ^ 64 → length (words number l) ≤ 130
unfolding words
words_are_short number l h = omega (
  arith,
  length-append (place l) (cause number ++ (10 ∷ [])),
  length-append (cause number) (10 ∷ []),
  place-length l h,
  cause-length number,
)
