-- Laws of a number with commas: what it is by its size, and how long.
use Rattle.std.specs.Prelude.{◌≡◌, List, ◌++◌, ℕ, ◌+◌, ◌*◌, ◌/◌, ◌^◌, ◌≤◌, ◌<◌, length}
use Rattle.std.proofs.Common.{ap, arith, lt-ltb, le-ltb, length-append}
use Rattle.std.proofs.Math.Decide.{dec_lt}
use Rattle.model.specs.Text.{bytes}
use Rattle.text_writers.specs.Fields.{decimal}
use Rattle.text_writers.specs.Decimal.{decimal-length}
use Rattle.text_commas.specs.Commas.{three, comma, grouped}

-- ---- by its size

pub grouped_small : (n : ℕ) → n < 1000 → grouped n ≡ decimal n
unfolding grouped
grouped_small n l = rw (lt-ltb n 1000 l)

pub grouped_thousands : (n : ℕ) → 1000 ≤ n → n < 1000 * 1000 → grouped n ≡ comma (decimal (n / 1000)) n
unfolding grouped
grouped_thousands n h l = rw (le-ltb n 1000 h, lt-ltb n (1000 * 1000) l)

pub grouped_millions : (n : ℕ) → 1000 * 1000 ≤ n → grouped n ≡ comma (comma (decimal (n / (1000 * 1000))) (n / 1000)) n
unfolding grouped
grouped_millions n h = rw (le-ltb n 1000 (omega arith), le-ltb n (1000 * 1000) h)

-- ---- lengths

comma-length : (a : List ℕ) (n : ℕ) → length (comma a n) ≡ length a + 4
unfolding comma three
comma-length a n = length-append a (bytes "," ++ three n)

-- a machine number with its commas
pub grouped-length : (n : ℕ) → n < 2 ^ 64 → length (grouped n) ≤ 28
grouped-length n l = elim (dec_lt n 1000) [
  | yes s ↦ omega (arith, ap length (grouped_small n s), decimal-length n l)
  | no s ↦ elim (dec_lt n (1000 * 1000)) [
    | yes t ↦ omega (
      arith,
      ap length (grouped_thousands n (omega arith) t),
      comma-length (decimal (n / 1000)) n,
      decimal-length (n / 1000) (omega arith),
    )
    | no t ↦ let first = n / (1000 * 1000) in
        omega (
          arith,
          ap length (grouped_millions n (omega arith)),
          comma-length (comma (decimal first) (n / 1000)) n,
          comma-length (decimal first) (n / 1000),
          decimal-length first (omega arith),
        )
  ]
]
