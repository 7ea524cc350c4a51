-- The words of two sheets, by cases, and how long they are.
use Rattle.std.specs.Prelude.{◌≡◌, ◌≢◌, [], ◌∷◌, ◌++◌, ℕ, ◌^◌, ◌≤◌, ◌<◌, length}
use Rattle.std.proofs.Common.{arith, length-append}
use Rattle.lists.specs.Sums.{pick_same, pick_other, pick_cases}
use Rattle.model.specs.Text.{bytes}
use Rattle.text_writers.specs.Fields.{decimal}
use Rattle.text_writers.specs.Decimal.{decimal-length}
use Rattle.report_causes.specs.CauseWords.{place, cause}
use Rattle.report_causes.specs.CauseLengths.{place-length, cause-length}
use Rattle.report_words.specs.TwoSheets.{sheet_place, words_of_sheets}

-- a sheet as a whole, or a line of it
pub no_line_of_it : (x l : ℕ) → l ≡ 0 → sheet_place x l ≡ bytes "sheet " ++ ((decimal x ++ (58 ∷ [])) ++ (32 ∷ []))
unfolding sheet_place
no_line_of_it x l e = rw (pick_same e ((decimal x ++ bytes ":") ++ bytes " ") ((decimal x ++ bytes ",") ++ (bytes " " ++ place l)))

pub a_line_of_it : (x l : ℕ) → l ≢ 0 → sheet_place x l ≡ bytes "sheet " ++ ((decimal x ++ (44 ∷ [])) ++ ((32 ∷ []) ++ place l))
unfolding sheet_place
a_line_of_it x l d = rw (pick_other d ((decimal x ++ bytes ":") ++ bytes " ") ((decimal x ++ bytes ",") ++ (bytes " " ++ place l)))

-- both sheets, or one
pub of_both : (x number l : ℕ) → x ≡ 0 → words_of_sheets x number l ≡ cause number ++ (10 ∷ [])
unfolding words_of_sheets
of_both x number l e = pick_same e (cause number ++ (10 ∷ [])) (sheet_place x l ++ (cause number ++ (10 ∷ [])))

pub of_one : (x number l : ℕ) → x ≢ 0 → words_of_sheets x number l ≡ sheet_place x l ++ (cause number ++ (10 ∷ []))
unfolding words_of_sheets
of_one x number l d = pick_other d (cause number ++ (10 ∷ [])) (sheet_place x l ++ (cause number ++ (10 ∷ [])))

-- ---- how long they are

pub sheet-place-length : (x l : ℕ) → x < 2 ^ 64 → l < 2 ^ 64 → length (sheet_place x l) ≤ 60
unfolding sheet_place
sheet-place-length x l h k = pick_cases (λ t. length (bytes "sheet " ++ t) ≤ 60) l 0 _ _
    (λ e. omega (
      arith,
      length-append (bytes "sheet ") ((decimal x ++ bytes ":") ++ bytes " "),
      length-append (decimal x ++ bytes ":") (bytes " "),
      length-append (decimal x) (bytes ":"),
      decimal-length x h,
    ))
    (λ d. omega (
      arith,
      length-append (bytes "sheet ") ((decimal x ++ bytes ",") ++ (bytes " " ++ place l)),
      length-append (decimal x ++ bytes ",") (bytes " " ++ place l),
      length-append (decimal x) (bytes ","),
      length-append (bytes " ") (place l),
      decimal-length x h,
      place-length l k,
    ))

pub words_of_sheets_are_short : (x number l : ℕ) → x < 2 ^ 64 → l < 2 ^ 64 → length (words_of_sheets x number l) ≤ 150
unfolding words_of_sheets
words_of_sheets_are_short x number l h k = pick_cases (λ t. length t ≤ 150) x 0 (cause number ++ (10 ∷ [])) (sheet_place x l ++ (cause number ++ (10 ∷ [])))
    (λ e. omega (arith, length-append (cause number) (10 ∷ []), cause-length number))
    (λ d. omega (
      arith,
      length-append (sheet_place x l) (cause number ++ (10 ∷ [])),
      length-append (cause number) (10 ∷ []),
      sheet-place-length x l h k,
      cause-length number,
    ))
