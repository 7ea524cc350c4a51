-- What reading a sheet answers, in both directions: a number at a line just for its cause, 0 just without one. Numbers are 1 to 8, 10 to 13, 17 or 19, and a
-- line at fault is one of the sheet. Document 01, "The network sheet" (the table's columns "No." and "Returned"); 02, Cards 1, 5, 9 and 11. By the causes,
-- one by one.
use Rattle.std.specs.Prelude.{◌⊎◌, ◌≢◌, ◌≡◌, ℕ, ◌≤◌, ◌<◌, Result, Ok, Err}
use Rattle.model.specs.declared.Refusal.{Refusal}
use Rattle.model.specs.declared.Sizing.{Sizing}
use Rattle.model.specs.declared.Sizing.TheVariants.{Reserved}
use Rattle.sheet.specs.Sheet.{Read}
use Rattle.sheet.specs.Reading.{reading}
use Rattle.sheet.specs.declared.Lists.{Lists}

-- ---- document 01's numbers

-- success is 0, and then there is no line
unfoldable pub number : Result Lists Refusal → ℕ
number (Ok net) = 0
number (Err r) = r.number

unfoldable pub line : Result Lists Refusal → ℕ
line (Ok net) = 0
line (Err r) = r.line

-- what reading comes to is told with number n, at line k
abbrev pub Tells : Read → ℕ → ℕ → Type 0
Tells r n k = (number (reading r) ≡ n) × (line (reading r) ≡ k)

-- a number with which a sheet is refused: 1 to 8, 10 to 12 or 17; on a network sheet 13, on a range sheet 19; never 0, which is success, nor 9, which is the
-- buffer's, nor 14 to 16, which are a log's, nor 18, which is of two sheets
pub record SheetNumber (z : Sizing) (n : ℕ) : Type 0 where
  pub some : 1 ≤ n
  pub known : n ≤ 19
  pub not_nine : n ≢ 9
  pub not_of_a_log : 13 < n → (n ≡ 17) ⊎ (n ≡ 19)
  pub of_a_network : n ≡ 13 → z ≡ Reserved
  pub of_ranges : n ≡ 19 → z ≢ Reserved

-- ---- how large they are
