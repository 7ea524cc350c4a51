-- A line of a word and a number, in its two fields as they are written, and how long it is.
use Rattle.std.specs.Prelude.{List, [], ◌∷◌, ◌++◌, ◌≡◌, ℕ, ◌^◌, ◌≤◌, ◌<◌, length}
use Rattle.std.proofs.Common.{append_assoc, arith, length-append}
use Rattle.text_writers.specs.Decimal.{decimal-length}
use Rattle.text_writers.specs.Fields.{decimal, line}

pub a-word-and-a-number : (word : List ℕ) (k : ℕ) → (word ++ (9 ∷ [])) ++ (decimal k ++ (10 ∷ [])) ≡ line (word ∷ decimal k ∷ [])
unfolding line
a-word-and-a-number word k = append_assoc word (9 ∷ []) (decimal k ++ (10 ∷ []))

pub a_number_is_short : (k : ℕ) → k < 2 ^ 64 → length (decimal k ++ (10 ∷ [])) ≤ 21
a_number_is_short k h = omega (arith, length-append (decimal k) (10 ∷ []), decimal-length k h)
