-- The line of a refusal, and its words, where a log is read with the sheet: they tell which text is meant.
-- Document 01 (a refusal tells which text it means: 1 the sheet, 2 the other), and 02, Card 6.
use Rattle.std.specs.Prelude.{List, [], ◌∷◌, ◌++◌, ℕ, ◌^◌, ◌≤◌, ◌<◌, length}
use Rattle.std.proofs.Common.{arith, length-append}
use Rattle.model.specs.Limits.{LOGLINES, LOGBYTES}
use Rattle.model.specs.Text.{bytes}
use Rattle.lists.specs.Numbers.{pick}
use Rattle.lists.specs.Sums.{pick_cases}
use Rattle.text_writers.specs.Fields.{decimal, line}
use Rattle.text_writers.specs.Decimal.{decimal-length}
use Rattle.text_commas.specs.Commas.{grouped}
use Rattle.text_commas.specs.CommaLaws.{grouped-length}
use Rattle.report_words.specs.Words.{words}
use Rattle.report_words.specs.Lengths.{words_are_short}

-- `refused`, text, number, line
unfoldable pub refusal_of : ℕ → ℕ → ℕ → List ℕ
refusal_of text number k = line (bytes "refused" ∷ decimal text ∷ decimal number ∷ decimal k ∷ [])

-- before the number of a line of the sheet
unfoldable pub sheet_word : ℕ → List ℕ
sheet_word l = pick l 0 [] (bytes "the sheet, ")

-- a log with more bytes or lines than it may have (number 1)
unfoldable pub log_long : List ℕ
log_long =
    bytes "the log: more than " ++ ((grouped LOGBYTES ++ bytes " ")
    ++ (bytes "bytes, or than " ++ ((grouped LOGLINES ++ bytes " ") ++ (bytes "lines" ++ (10 ∷ [])))))

-- why a log is refused as a whole: 1, or 9
unfoldable pub log_words : ℕ → List ℕ
log_words number = pick number 1 log_long (bytes "the log: more lines than places for answers" ++ (10 ∷ []))

-- the whole line
unfoldable pub words_of : ℕ → ℕ → ℕ → List ℕ
words_of text number l = pick text 2 (log_words number) (sheet_word l ++ words number l)

-- ---- how long they are

pub log_long_is_short : length log_long ≤ 110
unfolding log_long
log_long_is_short =
    let tail = (grouped LOGLINES ++ bytes " ") ++ (bytes "lines" ++ (10 ∷ [])) in
    omega (
      arith,
      length-append (bytes "the log: more than ") ((grouped LOGBYTES ++ bytes " ") ++ (bytes "bytes, or than " ++ tail)),
      length-append (grouped LOGBYTES ++ bytes " ") (bytes "bytes, or than " ++ tail),
      length-append (bytes "bytes, or than ") tail,
      length-append (grouped LOGLINES ++ bytes " ") (bytes "lines" ++ (10 ∷ [])),
      length-append (grouped LOGBYTES) (bytes " "),
      length-append (grouped LOGLINES) (bytes " "),
      grouped-length LOGBYTES (omega arith),
      grouped-length LOGLINES (omega arith),
    )

pub words_of_are_short : (text number l : ℕ) → l < 2 ^ 64 → length (words_of text number l) ≤ 150
unfolding words_of log_words sheet_word
words_of_are_short text number l h =
    let P : List ℕ → Type 0 = λ t. length t ≤ 150 in
    pick_cases P text 2 _ _
    (λ e. pick_cases P number 1 _ _ (λ e. omega (arith, log_long_is_short)) (λ d. omega arith))
    (λ d. pick_cases (λ w. length (w ++ words number l) ≤ 150) l 0 _ _ (λ e. omega (arith, words_are_short number l h))
    (λ d. omega (arith, length-append (bytes "the sheet, ") (words number l), words_are_short number l h)))

pub two_numbers : (a b : ℕ) → a < 2 ^ 64 → b < 2 ^ 64 → length (line (decimal a ∷ decimal b ∷ [])) ≤ 42
unfolding line
two_numbers a b h k = omega (
  arith,
  length-append (decimal a) (9 ∷ (decimal b ++ (10 ∷ []))),
  length-append (decimal b) (10 ∷ []),
  decimal-length a h,
  decimal-length b k,
)
