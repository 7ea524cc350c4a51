-- The bits of two words where they differ (`^`), and of the word with a single bit.
use mathlib.Core.Path.{◌≡◌, refl, sym, ap, ◌∙◌}
use Prim.Native.Nat.{ℕ, zero, suc, ◌+◌, ◌-◌, ◌*◌, ◌/◌, ◌%◌, ◌^◌, ◌≤◌, ◌<◌}
use native.Mathlib.Nat.{div-eq_of_lt, pow-suc, mul-mod_left, one-mul}
use native.Mathlib.Decide.{dec_lt}
use native.Mathlib.Omega.{arith}
use lib.Bits.{differ as digitsDiffer, bit_xor, xor_shr, xor_step, xor_zero_r}
use lib.Pow.{pow-lt, shl-shr, pow-add}
use Rattle.lists.specs.Numbers.{is, differ}
use Rattle.lists.specs.Sums.{pick_same, pick_other, same?, cases, is_same, is-other, differ_same, differ-other, differ-le}
use Rattle.tree_sets.specs.Members.{bit}
use Rattle.log_paths.specs.Rows.{single}

bit_power : (k j : ℕ) → bit (2 ^ k) j ≡ is j k
bit_power k j = same? j k
    (λ e. rw (is_same e, e) (ap (λ n. n % 2) (rw (one-mul (2 ^ k)) at (shl-shr 1 k))))
    (λ d. rw (is-other d) (cases (dec_lt j k)
    (λ l. let e : k ≡ suc (k - suc j) + j = omega arith in
    let power = ap (λ n. 2 ^ n / 2 ^ j) e ∙ ap (λ n. n / 2 ^ j) (pow-add 2 (suc (k - suc j)) j) ∙ shl-shr (2 ^ suc (k - suc j)) j ∙ pow-suc 2 (k - suc j) in
    ap (λ n. n % 2) power ∙ mul-mod_left (2 ^ (k - suc j)) 2)
    (λ l. let lt : k < j = omega arith in ap (λ n. n % 2) (div-eq_of_lt (pow-lt lt)))))

digits : (u v : ℕ) → u < 2 → v < 2 → digitsDiffer u v ≡ differ u v
digits zero zero p q = sym (differ_same refl)
digits zero (suc zero) p q = sym (differ-other (λ e. omega arith))
digits zero (suc (suc v)) p q = absurd (omega arith)
digits (suc zero) zero p q = sym (differ-other (λ e. omega arith))
digits (suc zero) (suc zero) p q = sym (differ_same refl)
digits (suc zero) (suc (suc v)) p q = absurd (omega arith)
digits (suc (suc u)) v p q = absurd (omega arith)

pub bit_xor_lem : (x y k : ℕ) → bit (bit_xor x y) k ≡ differ (bit x k) (bit y k)
bit_xor_lem x y k =
    let d = digits (bit x k) (bit y k) (omega arith) (omega arith) in
    rw (xor_shr x y k, xor_step) (omega (arith, d, differ-le (bit x k) (bit y k)))

-- a bit with nothing or with 1 set against it
pub differ-none : (u : ℕ) → u ≤ 1 → differ u 0 ≡ u
differ-none u h = same? u 0 (λ e. rw (differ_same e) (sym e)) (λ d. rw (differ-other d) (omega arith))

pub differ-one : (u : ℕ) → u ≤ 1 → differ u 1 ≡ 1 - u
differ-one u h = same? u 1 (λ e. rw (differ_same e, e) (omega arith)) (λ d. rw (differ-other d) (omega arith))

pub bit-single : (x q j r : ℕ) → r < 64 → bit (bit_xor x (single q j)) r ≡ differ (bit x r) (is (q * 64 + r) j)
unfolding single
bit-single x q j r h = same? (j / 64) q
    (λ e. rw (pick_same e, bit_xor_lem, bit_power) (ap (differ (bit x r)) (same? r (j % 64)
    (λ z. is_same z ∙ sym (is_same {u = q * 64 + r} {v = j} (omega arith)))
    (λ z. is-other z ∙ sym (is-other {u = q * 64 + r} {v = j} (λ w. z (omega arith)))))))
    (λ d. rw (pick_other d, xor_zero_r, is-other {u = q * 64 + r} {v = j} (λ w. d (omega arith))) (sym (differ-none (bit x r) (omega arith))))
