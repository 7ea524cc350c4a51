-- A number from 1 up, written in decimal, is a well-written number: digits, the first of them no zero.
use Rattle.std.specs.Prelude.{true, ◌≡◌, refl, List, [], ◌∷◌, ◌++◌, ℕ, zero, suc, ◌+◌, ◌/◌, ◌%◌, ◌≤◌, ◌<◌, length, get_or}
use Rattle.std.proofs.Common.{◌∙◌, arith, lt-ltb, le-ltb, le-leb, length-append}
use Rattle.std.proofs.Math.Decide.{dec_lt}
use Rattle.std.proofs.Math.ListN.{get_or-append}
use Rattle.lists.specs.Sums.{cases}
use Rattle.text_fields.specs.Fields.{all, is_digit, is_number}
use Rattle.text_fields.specs.FieldLaws.{both, number_is}
use Rattle.text_writers.specs.Fields.{digits, decimal}

record Digits (l : List ℕ) : Type 0 where
  pub some : 1 ≤ length l
  pub all_digits : all is_digit l ≡ true
  pub no_zero : 48 < get_or l 0 0

a_digit : (d : ℕ) → d < 10 → is_digit (48 + d) ≡ true
a_digit d h = rw (le-leb 48 (48 + d) (omega arith), le-leb (48 + d) 57 (omega arith)) refl

all_append : (a b : List ℕ) → all is_digit a ≡ true → all is_digit b ≡ true → all is_digit (a ++ b) ≡ true
unfolding all
all_append [] b h k = k
all_append (x ∷ a) b h k = let w = both (is_digit x) (all is_digit a) h in rw w.0 (all_append a b w.1 k)

digits_are_digits : (fuel n : ℕ) → n < fuel → 1 ≤ n → Digits (digits fuel n)
unfolding digits all
digits_are_digits zero n l h = absurd (omega arith)
digits_are_digits (suc fuel) n l h = cases (dec_lt n 10)
    (λ s. rw (lt-ltb _ _ s) (record { some = omega arith; all_digits = rw (a_digit n s) refl; no_zero = omega arith }))
    (λ s. let k : 10 ≤ n = omega arith in
    let d = digits_are_digits fuel (n / 10) (omega arith) (omega arith) in
    let last = (48 + n % 10) ∷ [] in
    rw (le-ltb _ _ k) (record {
      some = omega (arith, length-append (digits fuel (n / 10)) last);
      all_digits = all_append (digits fuel (n / 10)) last d.all_digits (rw (a_digit (n % 10) (omega arith)) refl);
      no_zero = rw (get_or-append (digits fuel (n / 10)) last 0 0 (omega (arith, d.some))) d.no_zero;
    }))

pub a-decimal-is-a-number : (n : ℕ) → 1 ≤ n → is_number (decimal n) ≡ true
unfolding decimal
a-decimal-is-a-number n h =
    let d = digits_are_digits (suc n) n (omega arith) h in
    number_is (digits (suc n) n) (omega (arith, d.some)) ∙ rw (d.all_digits, lt-ltb 48 _ d.no_zero) refl
