-- Numbers in decimal, and lines of fields. Document 01, "The report, given whole".
use Rattle.std.specs.Prelude.{cond, List, [], ◌∷◌, ◌++◌, ℕ, zero, suc, ◌+◌, ◌/◌, ◌%◌, ltb}

-- a number in decimal without a leading zero, like a size; fuel: more than its digits
unfoldable pub digits : ℕ → ℕ → List ℕ
digits zero n = []
digits (suc fuel) n = cond (ltb n 10) ((48 + n) ∷ []) (digits fuel (n / 10) ++ ((48 + n % 10) ∷ []))

unfoldable pub decimal : ℕ → List ℕ
decimal n = digits (suc n) n

-- the last k digits of a number, zeros in front where it has fewer
unfoldable pub padded : ℕ → ℕ → List ℕ
padded zero n = []
padded (suc k) n = padded k (n / 10) ++ ((48 + n % 10) ∷ [])

-- fields parted by one tab and ended by byte 10
unfoldable pub line : List (List ℕ) → List ℕ
line [] = []
line (f ∷ []) = f ++ (10 ∷ [])
line (f ∷ g ∷ fs) = f ++ (9 ∷ line (g ∷ fs))

-- the first fields of a line, with a tab behind each
unfoldable pub begun : List (List ℕ) → List ℕ
begun [] = []
begun (f ∷ fs) = f ++ (9 ∷ begun fs)
