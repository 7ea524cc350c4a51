-- A number with commas, as the words of a refusal have it.
use Rattle.std.specs.Prelude.{cond, List, [], ◌∷◌, ◌++◌, ℕ, ◌+◌, ◌*◌, ◌/◌, ◌%◌, ltb}
use Rattle.model.specs.Text.{bytes}
use Rattle.text_writers.specs.Fields.{decimal}

-- the last three digits of a number
unfoldable pub three : ℕ → List ℕ
three n = (48 + n / 100 % 10) ∷ (48 + n / 10 % 10) ∷ (48 + n % 10) ∷ []

-- digits, a comma, and the last three digits of a number
unfoldable pub comma : List ℕ → ℕ → List ℕ
comma before n = before ++ (bytes "," ++ three n)

-- a number with commas: before its last three digits, and before the three before them, where it has so many
unfoldable pub grouped : ℕ → List ℕ
grouped n =
    cond (ltb n 1000) (decimal n)
    (cond (ltb n (1000 * 1000)) (comma (decimal (n / 1000)) n)
    (comma (comma (decimal (n / (1000 * 1000))) (n / 1000)) n))
