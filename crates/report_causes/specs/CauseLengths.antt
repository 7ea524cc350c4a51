-- How long the words are: a place, and a cause.
use Rattle.std.specs.Prelude.{◌≡◌, refl, List, ◌++◌, ℕ, ◌^◌, ◌≤◌, ◌<◌, length}
use Rattle.std.proofs.Common.{arith, length-append}
use Rattle.model.specs.Limits.{SIZE}
use Rattle.model.specs.Edition.{edition1, edition2}
use Rattle.model.specs.Text.{bytes}
use Rattle.lists.specs.Sums.{pick_cases}
use Rattle.text_writers.specs.Fields.{digits, decimal}
use Rattle.text_writers.specs.Decimal.{decimal-length}
use Rattle.text_commas.specs.Commas.{three, comma, grouped}
use Rattle.text_commas.specs.CommaLaws.{grouped-length}
use Rattle.report_causes.specs.CauseWords.{either, place, cause}

-- the limits of both editions, as they are written
pub the_bytes_are_told : either edition1.bytes edition2.bytes ≡ bytes "16,384 (edition 2: 24,576)"
unfolding either grouped comma three decimal digits
the_bytes_are_told = refl

pub the_sites_are_told : either edition1.sites edition2.sites ≡ bytes "256 (edition 2: 384)"
unfolding either grouped decimal digits
the_sites_are_told = refl

-- ---- lengths

pub place-length : (l : ℕ) → l < 2 ^ 64 → length (place l) ≤ 27
unfolding place
place-length l h =
    let told = bytes "line " ++ (decimal l ++ bytes ": ") in
    pick_cases (λ t. length t ≤ 27) l 0 (bytes "the sheet: ") told (λ e. omega arith)
    (λ d. omega (arith, length-append (decimal l) (bytes ": "), decimal-length l h))

-- a limit behind its text
limit_length : (t : List ℕ) (n : ℕ) → n < 2 ^ 64 → length t ≤ 50 → length (t ++ grouped n) ≤ 78
limit_length t n l h = omega (arith, length-append t (grouped n), grouped-length n l)

pub cause-length : (n : ℕ) → length (cause n) ≤ 78
unfolding cause
cause-length n =
    let P : List ℕ → Type 0 = λ t. length t ≤ 78 in
    pick_cases P n 1 _ _ (λ e. rw the_bytes_are_told (omega arith))
    (λ d. pick_cases P n 2 _ _ (λ e. omega arith)
    (λ d. pick_cases P n 3 _ _ (λ e. limit_length (bytes "size or reserve above ") SIZE (omega arith) (omega arith))
    (λ d. pick_cases P n 4 _ _ (λ e. rw the_sites_are_told (omega arith))
    (λ d. pick_cases P n 5 _ _ (λ e. omega arith)
    (λ d. pick_cases P n 6 _ _ (λ e. omega arith)
    (λ d. pick_cases P n 7 _ _ (λ e. omega arith)
    (λ d. pick_cases P n 8 _ _ (λ e. omega arith)
    (λ d. pick_cases P n 9 _ _ (λ e. omega arith)
    (λ d. pick_cases P n 10 _ _ (λ e. omega arith)
    (λ d. pick_cases P n 11 _ _ (λ e. omega arith)
    (λ d. pick_cases P n 12 _ _ (λ e. omega arith)
    (λ d. pick_cases P n 13 _ _ (λ e. omega arith)
    (λ d. pick_cases P n 17 _ _ (λ e. omega arith)
    (λ d. pick_cases P n 18 _ _ (λ e. omega arith)
    (λ d. pick_cases P n 19 _ _ (λ e. omega arith)
    (λ d. omega arith))))))))))))))))
