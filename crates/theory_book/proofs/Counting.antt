-- The same lists by counting: lists of sizes are the numbers in base b, and choices of k links the numbers in base 2 that choose k, in the same order.
use Rattle.std.specs.Prelude.{◌≡◌, ◌≢◌}
use Rattle.std.proofs.Math.Path.{refl, sym, ap}
use Rattle.std.proofs.Common.{◌∙◌, inl, inr}
use mathlib.Core.List.{List, [], ◌∷◌, ◌++◌, map, flat_map, append-nil}
use Prim.Native.Nat.{ℕ, zero, suc, ◌+◌, ◌*◌, ◌/◌, ◌%◌, ◌^◌, ◌<◌}
use native.Mathlib.Omega.{arith}
use Rattle.std.proofs.Math.Nat.{pow-succ', add-mul-div_right, add-mul-mod_self_right, div-eq_of_lt}
use Rattle.std.proofs.Math.ListN.{length}
use Rattle.lists.specs.Numbers.{upfrom}
use Rattle.lists.specs.Sums.{same?, pick_same, pick_other}
use Rattle.theory_book.specs.Listing.{In, combos}
use Rattle.theory_book.specs.ListLaws.{from_in}
use Rattle.theory_book.proofs.ListLaws.{either}
use Rattle.theory_book.specs.FlatLaws.{flat_append, flat-same, flat-none, map_of_flat, flat_shift, from-append}
use Rattle.theory_book.specs.Numbered.{chosen}
use Rattle.theory_book.specs.Counting.{of_size, power}

module _ {A : Type 0} where
  chosen_shift : (l : List A) (m c : ℕ) → chosen l (m + c * 2 ^ length l) ≡ chosen l m
  unfolding chosen
  chosen_shift [] m c = refl
  chosen_shift (a ∷ l) m c =
      let e : m + c * 2 ^ suc (length l) ≡ m + c * 2 * 2 ^ length l = omega (arith, ap (λ p. c * p) (pow-succ' 2 (length l))) in
      rw (
        e,
        chosen_shift l m (c * 2),
        add-mul-div_right m (c * 2) {z = 2 ^ length l} (power 2 (length l) (omega arith)),
        add-mul-mod_self_right (m / 2 ^ length l) c 2,
      )

  -- lower half: with the first element
  chosen-low : (a : A) (l : List A) (m : ℕ) → m < 2 ^ length l → chosen (a ∷ l) m ≡ a ∷ chosen l m
  unfolding chosen
  chosen-low a l m h = pick_same (ap (λ d. d % 2) (div-eq_of_lt h)) (a ∷ chosen l m) (chosen l m)

  -- upper half: without it
  chosen-high : (a : A) (l : List A) (m : ℕ) → m < 2 ^ length l → chosen (a ∷ l) (2 ^ length l + m) ≡ chosen l m
  unfolding chosen
  chosen-high a l m h =
      let e : 2 ^ length l + m ≡ m + 1 * 2 ^ length l = omega arith in
      let d : (2 ^ length l + m) / 2 ^ length l % 2 ≢ 0
      = λ z. absurd (omega (arith, rw (e, add-mul-div_right m 1 {z = 2 ^ length l} (power 2 (length l) (omega arith)), div-eq_of_lt h) at z)) in
      pick_other d (a ∷ chosen l (2 ^ length l + m)) (chosen l (2 ^ length l + m)) ∙ ap (chosen l) e ∙ chosen_shift l m 1

  low : (k : ℕ) (a : A) (l : List A) (m : ℕ) → m < 2 ^ length l → of_size (suc k) (a ∷ l) m ≡ map (λ c. a ∷ c) (of_size k l m)
  unfolding of_size
  low k a l m h = rw (chosen-low a l m h) (same? (length (chosen l m)) k
      (λ e. rw (pick_same e, pick_same (ap suc e)))
      (λ d. rw (pick_other d, pick_other {u = suc (length (chosen l m))} {v = suc k} (λ z. d (omega arith)))))

  low-none : (a : A) (l : List A) (m : ℕ) → m < 2 ^ length l → of_size 0 (a ∷ l) m ≡ []
  unfolding of_size
  low-none a l m h = rw (chosen-low a l m h) (pick_other {u = suc (length (chosen l m))} {v = 0} (λ z. absurd (omega arith)) ((a ∷ chosen l m) ∷ []) [])

  high : (k : ℕ) (a : A) (l : List A) (m : ℕ) → m < 2 ^ length l → of_size k (a ∷ l) (2 ^ length l + m) ≡ of_size k l m
  unfolding of_size
  high k a l m h = rw (chosen-high a l m h)

  -- both halves
  halves : (k : ℕ) (a : A) (l : List A) → flat_map (of_size k (a ∷ l)) (upfrom 0 (2 ^ suc (length l)))
      ≡ flat_map (of_size k (a ∷ l)) (upfrom 0 (2 ^ length l)) ++ flat_map (of_size k l) (upfrom 0 (2 ^ length l))
  halves k a l =
      let w = 2 ^ length l in
      let e : 2 ^ suc (length l) ≡ w + w = omega (arith, pow-succ' 2 (length l)) in
      let z : 0 + w ≡ w + 0 = omega arith in
      ap (λ p. flat_map (of_size k (a ∷ l)) (upfrom 0 p)) e ∙ ap (flat_map (of_size k (a ∷ l))) (from-append 0 w w)
      ∙ flat_append (of_size k (a ∷ l)) (upfrom 0 w) (upfrom (0 + w) w)
      ∙ ap (λ r. flat_map (of_size k (a ∷ l)) (upfrom 0 w) ++ r) (ap (λ b. flat_map (of_size k (a ∷ l)) (upfrom b w)) z ∙ flat_shift (of_size k (a ∷ l)) w 0 w
      ∙ flat-same (λ i. of_size k (a ∷ l) (w + i)) (of_size k l) (upfrom 0 w) (λ m i. high k a l m (omega (arith, from_in 0 w m i))))

  single : (k : ℕ) → flat_map (of_size {A = A} k []) (upfrom 0 (2 ^ 0)) ≡ of_size k [] 0
  unfolding flat_map upfrom
  single k = append-nil (of_size k [] 0)

  single-same : of_size {A = A} 0 [] 0 ≡ [] ∷ []
  unfolding of_size chosen
  single-same = pick_same refl ([] ∷ []) []

  single-none : (k : ℕ) → of_size {A = A} (suc k) [] 0 ≡ []
  unfolding of_size chosen
  single-none k = pick_other {u = 0} {v = suc k} (λ z. absurd (omega arith)) ([] ∷ []) []

  -- the lists of k elements are the numbers 0 .. 2 ^ length l - 1 that choose k
  pub combos-count : (l : List A) (k : ℕ) → combos l k ≡ flat_map (of_size k l) (upfrom 0 (2 ^ length l))
  unfolding combos
  combos-count [] zero = sym (single 0 ∙ single-same)
  combos-count [] (suc k) = sym (single (suc k) ∙ single-none k)
  combos-count (a ∷ l) zero = combos-count l zero
      ∙ sym (halves 0 a l ∙ ap (λ r. r ++ flat_map (of_size 0 l) (upfrom 0 (2 ^ length l)))
      (flat-none (of_size 0 (a ∷ l)) (upfrom 0 (2 ^ length l)) (λ m i. low-none a l m (omega (arith, from_in 0 (2 ^ length l) m i)))))
  combos-count (a ∷ l) (suc k) = rw (combos-count l k, combos-count l (suc k))
      (sym (halves (suc k) a l ∙ ap (λ r. r ++ flat_map (of_size (suc k) l) (upfrom 0 (2 ^ length l)))
      (flat-same (of_size (suc k) (a ∷ l)) (λ m. map (λ c. a ∷ c) (of_size k l m)) (upfrom 0 (2 ^ length l))
      (λ m i. low k a l m (omega (arith, from_in 0 (2 ^ length l) m i)))
      ∙ sym (map_of_flat (λ c. a ∷ c) (of_size k l) (upfrom 0 (2 ^ length l))))))

-- a choice takes elements of the list
pub chosen_in : {A : Type 0} (l : List A) (m : ℕ) (x : A) → In x (chosen l m) → In x l
unfolding chosen
chosen_in [] m x i = i
chosen_in (a ∷ l) m x i = same? (m / 2 ^ length l % 2) 0
    (λ e. let j : In x (a ∷ chosen l m) = rw (pick_same e) at i in either j (λ z. inl z) (λ z. inr (chosen_in l m x z)))
    (λ d. let j : In x (chosen l m) = rw (pick_other d) at i in inr (chosen_in l m x j))
