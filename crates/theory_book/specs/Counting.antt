-- The same lists by counting: lists of sizes are the numbers in base b, and choices of k links the numbers in base 2 that choose k, in the same order.
use Rattle.std.specs.Prelude.{◌≡◌}
use Rattle.std.proofs.Math.Path.{refl, sym, ap}
use Rattle.std.proofs.Common.{◌∙◌, mod-eq_of_lt}
use mathlib.Core.List.{List, [], ◌∷◌, map, flat_map}
use Prim.Native.Nat.{ℕ, zero, suc, ◌+◌, ◌*◌, ◌/◌, ◌%◌, ◌^◌, ◌≤◌, ◌<◌}
use native.Mathlib.Omega.{arith}
use Rattle.std.proofs.Math.Nat.{pow-zero, pow-succ', add-mul-div_right, add-mul-mod_self_right, div-eq_of_lt, pow-le-pow_right}
use Rattle.std.proofs.Math.ListN.{length}
use Rattle.lists.specs.Numbers.{pick, upfrom}
use Rattle.theory_book.specs.Listing.{words}
use Rattle.theory_book.specs.ListLaws.{from_in}
use Rattle.theory_book.specs.FlatLaws.{flat-same, flat-map, map-flat, rows}
use Rattle.theory_book.specs.Numbered.{word, chosen}

-- ---- lists of sizes as numbers in base b

pub power : (b k : ℕ) → 1 ≤ b → 1 ≤ b ^ k
power b k h = rw (pow-zero b) at (pow-le-pow_right {n = b} h {i = 0} {j = k} (omega arith))

word_shift : (b k s c : ℕ) → 1 ≤ b → word b k (s + c * b ^ k) ≡ word b k s
unfolding word
word_shift b zero s c h = refl
word_shift b (suc k) s c h =
    let e : s + c * b ^ suc k ≡ s + c * b * b ^ k = omega (arith, ap (λ p. c * p) (pow-succ' b k)) in
    rw (e, word_shift b k s (c * b) h, add-mul-div_right s (c * b) {z = b ^ k} (power b k h), add-mul-mod_self_right (s / b ^ k) c b)

word_row : (b k a s : ℕ) → 1 ≤ b → a < b → s < b ^ k → word b (suc k) (a * b ^ k + s) ≡ a ∷ word b k s
unfolding word
word_row b k a s h l m =
    let e : a * b ^ k + s ≡ s + a * b ^ k = omega arith in
    rw (e, word_shift b k s a h, add-mul-div_right s a {z = b ^ k} (power b k h), div-eq_of_lt m)
    (ap (λ d. d ∷ word b k s) (ap (λ d. d % b) (omega arith) ∙ mod-eq_of_lt l))

no_digits : (b : ℕ) → map (word b 0) (upfrom 0 1) ≡ [] ∷ []
unfolding word upfrom
no_digits b = refl

row : (b k a : ℕ) → 1 ≤ b → a < b → words (upfrom 0 b) k ≡ map (word b k) (upfrom 0 (b ^ k))
    → map (λ w. a ∷ w) (words (upfrom 0 b) k) ≡ flat_map (λ s. word b (suc k) (a * b ^ k + s) ∷ []) (upfrom 0 (b ^ k))
row b k a h l e = ap (map (λ w. a ∷ w)) e ∙ map-flat (λ w. a ∷ w) (map (word b k) (upfrom 0 (b ^ k)))
    ∙ flat-map (λ w. (a ∷ w) ∷ []) (word b k) (upfrom 0 (b ^ k))
    ∙ flat-same (λ s. (a ∷ word b k s) ∷ []) (λ s. word b (suc k) (a * b ^ k + s) ∷ []) (upfrom 0 (b ^ k))
    (λ s i. ap (λ w. w ∷ []) (sym (word_row b k a s h l (omega (arith, from_in 0 (b ^ k) s i)))))

-- the lists of sizes are the numbers 0 .. b ^ k - 1 in base b
pub words_count : (b k : ℕ) → 1 ≤ b → words (upfrom 0 b) k ≡ map (word b k) (upfrom 0 (b ^ k))
unfolding words
words_count b zero h = sym (ap (λ p. map (word b 0) (upfrom 0 p)) (pow-zero b) ∙ no_digits b)
words_count b (suc k) h =
    let ih = words_count b k h in
    flat-same (λ a. map (λ w. a ∷ w) (words (upfrom 0 b) k)) (λ a. flat_map (λ s. word b (suc k) (a * b ^ k + s) ∷ []) (upfrom 0 (b ^ k))) (upfrom 0 b)
    (λ a i. row b k a h (omega (arith, from_in 0 b a i)) ih)
    ∙ sym (map-flat (word b (suc k)) (upfrom 0 (b ^ suc k)) ∙ ap (λ p. flat_map (λ s. word b (suc k) s ∷ []) (upfrom 0 p)) (pow-succ' b k)
    ∙ rows (λ s. word b (suc k) s ∷ []) (b ^ k) b)

-- ---- choices of links as numbers in base 2

-- the choice by m, if it has k elements
unfoldable pub of_size : {A : Type 0} → ℕ → List A → ℕ → List (List A)
of_size k l m = pick (length (chosen l m)) k (chosen l m ∷ []) []
