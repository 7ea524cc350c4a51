-- How long the line of an answer is.
use Rattle.std.proofs.Common.{ℕ, ◌^◌, ◌<◌, ◌≤◌, [], ◌∷◌, ◌++◌, length, arith, length-append}
use Rattle.text_writers.specs.Fields.{decimal}
use Rattle.text_writers.specs.Decimal.{decimal-length}

-- a number and its end
pub number_is_short : (k : ℕ) → k < 2 ^ 64 → length (decimal k ++ (10 ∷ [])) ≤ 21
number_is_short k h = omega (arith, length-append (decimal k) (10 ∷ []), decimal-length k h)
