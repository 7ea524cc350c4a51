-- The bits of a number: how many are set, the lowest that is set, the number without it, and one set by `|`.
use mathlib.Core.Path.{◌≡◌, refl, sym, ap, ◌∙◌}
use mathlib.Core.Logic.{◌≢◌, ⊎_elim}
use Prim.Native.Nat.{ℕ, zero, suc, ◌+◌, ◌-◌, ◌*◌, ◌/◌, ◌%◌, ◌^◌, ◌≤◌, ◌<◌, max}
use native.Mathlib.Nat.{div-eq_of_lt, pow-suc, mul-mod_left, one-mul, zero-div, eq-zero-or-pos, lt_of_lt_of_le, lt_of_le_of_lt}
use native.Mathlib.Decide.{dec_lt}
use native.Mathlib.Numerals.{add-one}
use native.Mathlib.Omega.{arith}
use lib.Bits.{bit_and, bit_or, and_self, and_step, or_shr, or_step}
use lib.Count.{ones, ones-le, ones_step, count_trailing_zeros}
use lib.Pow.{shr-shr, pow-lt, pow_mono, shl-shr, shl_exact, pow-add, shr_lt, shr_le}
use Rattle.lists.specs.Numbers.{pick, is, sum}
use Rattle.lists.specs.Sums.{pick_same, pick_other, is_same, is-other, cases, same?, sum-eq}
use Rattle.tree_sets.specs.Laws.{bit-low, bit_up}
use Rattle.lists.specs.Parts.{sum-front}
use Rattle.tree_sets.specs.Members.{bit}

bit_shr : (x k j : ℕ) → bit x (k + j) ≡ bit (x / 2 ^ k) j
bit_shr x k j = ap (λ n. n % 2) (sym (shr-shr x k j))

-- a bit that is set stands in the word
pub in_word : (x k : ℕ) → x < 2 ^ 64 → bit x k ≡ 1 → k < 64
in_word x k h e = cases (dec_lt k 64)
    (λ l. l)
    (λ l. let le : 64 ≤ k = omega arith in
    let z = div-eq_of_lt (lt_of_lt_of_le h (pow_mono le)) in absurd (omega arith))

-- ---- the number of bits that are set

pub ones-sum : (k x : ℕ) → x < 2 ^ k → ones x ≡ sum k (bit x)
unfolding sum
ones-sum zero x h = omega (arith, ones-le 0 x h)
ones-sum (suc k) x h = omega (
  arith,
  ones_step x,
  ones-sum k (x / 2) (shr_lt k 1 (rw (add-one k) h)),
  sum-front (bit x) k,
  bit-low x,
  sum-eq k (λ i. bit x (suc i)) (bit (x / 2)) (λ i l. bit_up x i),
)

-- ---- the lowest bit that is set

pub record Lowest (x t : ℕ) : Type 0 where
  pub set : bit x t ≡ 1
  pub clear : (j : ℕ) → j < t → bit x j ≡ 0

pub lowest : (k x : ℕ) → x ≢ 0 → x < 2 ^ k → Lowest x (count_trailing_zeros k x)
unfolding count_trailing_zeros
lowest zero x n h = absurd (n (omega arith))
lowest (suc k) x n h = ⊎_elim
    (λ (e : x % 2 ≡ 0).
    let r = lowest k (x / 2) (λ z. n (omega arith)) (shr_lt k 1 (rw (add-one k) h)) in
    rw e record { set = bit_up x (count_trailing_zeros k (x / 2)) ∙ r.set; clear = low e r.clear })
    (λ (p : 0 < x % 2).
    let e : x % 2 ≡ 1 = omega arith in
    rw e record { set = bit-low x ∙ e; clear = λ j l. absurd (omega arith) })
    (eq-zero-or-pos (x % 2))
  where
    low : {t : ℕ} → x % 2 ≡ 0 → ((j : ℕ) → j < t → bit (x / 2) j ≡ 0) → (j : ℕ) → j < suc t → bit x j ≡ 0
    low e f zero l = bit-low x ∙ e
    low e f (suc j) l = bit_up x j ∙ f j (omega arith)

-- that bit taken out, by `&` with the number before
pub without-lowest : (t x : ℕ) → Lowest x t → (k : ℕ) → bit (bit_and x (x - 1)) k ≡ pick k t 0 (bit x k)
without-lowest zero x h k =
    let odd : x % 2 ≡ 1 = omega (arith, bit-low x, h.set) in
    let half : (x - 1) / 2 ≡ x / 2 = omega arith in
    let double : bit_and x (x - 1) ≡ x / 2 * 2 = omega (arith, rw (half, and_self) at (and_step x (x - 1))) in
    rw double (bits k)
  where
    bits : (k : ℕ) → bit (x / 2 * 2) k ≡ pick k 0 0 (bit x k)
    bits zero = bit-low (x / 2 * 2) ∙ omega arith ∙ sym (pick_same refl 0 (bit x 0))
    bits (suc k) =
        let half : x / 2 * 2 / 2 ≡ x / 2 = omega arith in
        bit_up (x / 2 * 2) k ∙ rw half (sym (bit_up x k)) ∙ sym (pick_other {u = suc k} {v = 0} (λ e. omega arith) 0 (bit x (suc k)))
without-lowest (suc t) x h k =
    let even : x % 2 ≡ 0 = omega (arith, bit-low x, h.clear 0 (omega arith)) in
    let more : Lowest (x / 2) t = record { set = sym (bit_up x t) ∙ h.set; clear = λ j l. sym (bit_up x j) ∙ h.clear (suc j) (omega arith) } in
    let some : x / 2 ≢ 0 = λ z. omega (arith, rw (z, zero-div) at more.set) in
    let half : (x - 1) / 2 ≡ x / 2 - 1 = omega arith in
    let double : bit_and x (x - 1) ≡ bit_and (x / 2) (x / 2 - 1) * 2 = omega (arith, rw half at (and_step x (x - 1))) in
    rw double (bits (bit_and (x / 2) (x / 2 - 1)) even (without-lowest t (x / 2) more) k)
  where
    bits : (y : ℕ) → x % 2 ≡ 0 → ((k : ℕ) → bit y k ≡ pick k t 0 (bit (x / 2) k)) → (k : ℕ) → bit (y * 2) k ≡ pick k (suc t) 0 (bit x k)
    bits y even r zero = bit-low (y * 2) ∙ omega (arith, bit-low x) ∙ sym (pick_other {u = 0} {v = suc t} (λ e. omega arith) 0 (bit x 0))
    bits y even r (suc k) =
        let half : y * 2 / 2 ≡ y = omega arith in
        bit_up (y * 2) k ∙ rw half (r k) ∙ same? k t
        (λ e. pick_same e 0 (bit (x / 2) k) ∙ sym (pick_same (ap suc e) 0 (bit x (suc k))))
        (λ d. pick_other d 0 (bit (x / 2) k) ∙ sym (bit_up x k) ∙ sym (pick_other {u = suc k} {v = suc t} (λ e. d (omega arith)) 0 (bit x (suc k))))

-- what the trailing zeros of x shifted by k say of the bits of x from k up
pub record NextBit (x k t : ℕ) : Type 0 where
  pub below : k + t < 64
  pub hit : bit x (k + t) ≡ 1
  pub miss : (j : ℕ) → j < t → bit x (k + j) ≡ 0

pub next_bit : (x k : ℕ) → x < 2 ^ 64 → x / 2 ^ k ≢ 0 → NextBit x k (count_trailing_zeros 64 (x / 2 ^ k))
next_bit x k h n =
    let low = lowest 64 (x / 2 ^ k) n (lt_of_le_of_lt (shr_le x k) h) in
    let one = bit_shr x k (count_trailing_zeros 64 (x / 2 ^ k)) ∙ low.set in
    record { below = in_word x (k + count_trailing_zeros 64 (x / 2 ^ k)) h one; hit = one; miss = λ j l. bit_shr x k j ∙ low.clear j l }

pub no_bit : (x k j : ℕ) → x / 2 ^ k ≡ 0 → bit x (k + j) ≡ 0
no_bit x k j z = bit_shr x k j ∙ rw (z, zero-div)

-- ---- one bit set by `|`

bit-pow : (k j : ℕ) → bit (2 ^ k) j ≡ is j k
bit-pow k j = same? j k
    (λ e. rw (is_same e, e) (ap (λ n. n % 2) (rw (one-mul (2 ^ k)) at (shl-shr 1 k))))
    (λ d. rw (is-other d) (cases (dec_lt j k)
    (λ l. let e : k ≡ suc (k - suc j) + j = omega arith in
    ap (λ n. n % 2) (ap (λ n. 2 ^ n / 2 ^ j) e ∙ ap (λ n. n / 2 ^ j) (pow-add 2 (suc (k - suc j)) j) ∙ shl-shr (2 ^ suc (k - suc j)) j ∙ pow-suc 2 (k - suc j))
    ∙ mul-mod_left (2 ^ (k - suc j)) 2)
    (λ l. let lt : k < j = omega arith in ap (λ n. n % 2) (div-eq_of_lt (pow-lt lt)))))

bit-or : (a b k : ℕ) → bit (bit_or a b) k ≡ max (bit a k) (bit b k)
bit-or a b k = rw (or_shr a b k, or_step) (omega arith)

pub or-bit : (x k j : ℕ) → k < 64 → bit (bit_or x (1 * 2 ^ k % 2 ^ 64)) j ≡ pick j k 1 (bit x j)
or-bit x k j h =
    let e : 1 * 2 ^ k % 2 ^ 64 ≡ 2 ^ k = shl_exact 1 k 64 (omega arith) (omega arith) ∙ one-mul (2 ^ k) in
    rw (e, bit-or, bit-pow) (same? j k
    (λ q. rw (is_same q, pick_same q) (omega arith))
    (λ d. rw (is-other d, pick_other d) (omega arith)))
