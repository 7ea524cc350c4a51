-- Laws of numbers in decimal: the last digit stands behind the others, a number below 10 ^ k has at most k digits, and its low digits are those of its rest.
use Rattle.std.specs.Prelude.{◌≡◌, refl, [], ◌∷◌, ◌++◌, ℕ, zero, suc, ◌+◌, ◌*◌, ◌/◌, ◌%◌, ◌^◌, ◌≤◌, ◌<◌, length}
use Rattle.std.proofs.Common.{ap, ◌∙◌, append_assoc, append-nil, arith, pow-suc, mul-le-mul, lt-ltb, le-ltb, length-append}
use Rattle.std.proofs.Math.Decide.{dec_lt}
use Rattle.std.proofs.Math.Nat.{one-le-pow}
use Rattle.text_writers.specs.Fields.{digits, decimal, padded}

-- any fuel above the number gives the same digits
fuel_free : (f g n : ℕ) → n < f → n < g → digits f n ≡ digits g n
unfolding digits
fuel_free zero g n p q = absurd (omega arith)
fuel_free (suc f) zero n p q = absurd (omega arith)
fuel_free (suc f) (suc g) n p q = elim (dec_lt n 10) [
  | yes l ↦ rw (lt-ltb _ _ l)
  | no l ↦ let h : 10 ≤ n = omega arith in
      rw (le-ltb _ _ h) (ap (λ d. d ++ ((48 + n % 10) ∷ [])) (fuel_free f g (n / 10) (omega arith) (omega arith)))
]

pub decimal_small : (n : ℕ) → n < 10 → decimal n ≡ (48 + n) ∷ []
unfolding decimal digits
decimal_small n l = rw (lt-ltb _ _ l)

pub decimal_large : (n : ℕ) → 10 ≤ n → decimal n ≡ decimal (n / 10) ++ ((48 + n % 10) ∷ [])
unfolding decimal digits
decimal_large n h = rw (le-ltb _ _ h) (ap (λ d. d ++ ((48 + n % 10) ∷ [])) (fuel_free n (suc (n / 10)) (n / 10) (omega arith) (omega arith)))

digits_few : (f k n : ℕ) → n < 10 ^ suc k → length (digits f n) ≤ suc k
unfolding digits
digits_few zero k n l = omega arith
digits_few (suc f) zero n l = rw (lt-ltb n 10 (omega arith)) (omega arith)
digits_few (suc f) (suc k) n l = elim (dec_lt n 10) [
  | yes s ↦ rw (lt-ltb _ _ s) (omega arith)
  | no s ↦ let h : 10 ≤ n = omega arith in
      let q : n / 10 < 10 ^ suc k = omega (arith, l, pow-suc 10 (suc k)) in
      rw (le-ltb _ _ h) (omega (arith, length-append (digits f (n / 10)) ((48 + n % 10) ∷ []), digits_few f k (n / 10) q))
]

-- a number below 10 ^ k has at most k digits (k at least 1)
pub decimal-within : (k n : ℕ) → n < 10 ^ suc k → length (decimal n) ≤ suc k
unfolding decimal
decimal-within k n l = digits_few (suc n) k n l

-- a machine number has at most 20
pub decimal-length : (n : ℕ) → n < 2 ^ 64 → length (decimal n) ≤ 20
decimal-length n l = decimal-within 19 n (omega arith)

-- the number of digits, but for the last
pub decimal_shorter : (n : ℕ) → 10 ≤ n → length (decimal n) ≡ length (decimal (n / 10)) + 1
decimal_shorter n h = ap length (decimal_large n h) ∙ length-append (decimal (n / 10)) ((48 + n % 10) ∷ [])

-- there is at least one digit
pub decimal-some : (n : ℕ) → 1 ≤ length (decimal n)
decimal-some n = elim (dec_lt n 10) [
  | yes l ↦ omega (arith, ap length (decimal_small n l))
  | no l ↦ omega (arith, decimal_shorter n (omega arith))
]

-- ---- digits in pieces

-- a number from its high and its low part, over any power of ten
pub decimal_pieces : (k h l n : ℕ) → n ≡ h * 10 ^ k + l → 1 ≤ h → l < 10 ^ k → decimal n ≡ decimal h ++ padded k l
unfolding padded
decimal_pieces zero h l n e p q = rw append-nil (ap decimal (omega (arith, e, q)))
decimal_pieces (suc k) h l n e p q =
    let x = h * 10 ^ k in
    let tens : n ≡ x * 10 + l = omega (arith, ap (λ m. h * m) (pow-suc 10 k)) in
    let some : 1 * 1 ≤ x = mul-le-mul p (one-le-pow k 10 (omega arith)) in
    let high : n / 10 ≡ x + l / 10 = omega (arith, tens) in
    let last : n % 10 ≡ l % 10 = omega (arith, tens) in
    let low : l / 10 < 10 ^ k = omega (arith, pow-suc 10 k) in
    decimal_large n (omega (arith, tens, some)) ∙ rw (last, decimal_pieces k h (l / 10) (n / 10) high p low)
    (append_assoc (decimal h) (padded k (l / 10)) ((48 + l % 10) ∷ []))

-- a number with as many digits as are told
pub decimal_full : (k n : ℕ) → 10 ^ k ≤ n → n < 10 ^ suc k → decimal n ≡ padded (suc k) n
unfolding padded
decimal_full zero n p q = decimal_small n (omega arith) ∙ (let e : n % 10 ≡ n = omega arith in rw e)
decimal_full (suc k) n p q =
    let low : 10 ^ k ≤ n / 10 = omega (arith, pow-suc 10 k) in
    let high : n / 10 < 10 ^ suc k = omega (arith, pow-suc 10 (suc k)) in
    decimal_large n (omega (arith, pow-suc 10 k, one-le-pow k 10 (omega arith))) ∙ rw (decimal_full k (n / 10) low high)

-- so many digits are so many
pub padded-length : (k n : ℕ) → length (padded k n) ≡ k
unfolding padded
padded-length zero n = refl
padded-length (suc k) n = omega (arith, length-append (padded k (n / 10)) ((48 + n % 10) ∷ []), padded-length k (n / 10))
