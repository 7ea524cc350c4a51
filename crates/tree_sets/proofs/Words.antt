-- Words as a set: one member more, the members of a word counted, and the next member of a word.
use mathlib.Core.Path.{◌≡◌, refl, ap, ◌∙◌}
use mathlib.Core.Logic.{◌≢◌}
use Prim.Native.Nat.{ℕ, suc, ◌+◌, ◌-◌, ◌*◌, ◌/◌, ◌%◌, ◌^◌, ◌≤◌, ◌<◌}
use native.Mathlib.Nat.{zero-div, add_assoc}
use native.Mathlib.Omega.{arith}
use lib.Bits.{bit_or}
use lib.Count.{ones, count_trailing_zeros}
use lib.ListN.{length, get_or, set, replicate, get_or-eq_default}
use lib.Seq.{get_or-set_same, get_or-set_other}
use Rattle.model.specs.Limits.{SITES, WORDS}
use Rattle.lists.specs.Numbers.{sum}
use Rattle.lists.specs.Places.{look-zeros}
use Rattle.lists.specs.Sums.{pick_same, pick_other, same?, less_one, less_none, sum-eq}
use Rattle.tree_sets.specs.Members.{bit, member, adding, first_from}
use Rattle.tree_sets.specs.declared.Set.{Set}
use Rattle.std.specs.Prelude.{Option, Some, None}
use Rattle.lists.specs.Parts.{sum-split}
use Rattle.tree_sets.specs.Laws.{member-bit, first_skip, first_hit}
use Rattle.tree_sets.proofs.Bits.{ones-sum, next_bit, no_bit, or-bit}

-- a number from SITES up is in no set
pub member_out : (s : Set) (m : ℕ) → length s.words ≡ WORDS → SITES ≤ m → member s m ≡ 0
unfolding member
member_out s m l h =
    let past : length s.words ≤ m / 64 = omega arith in
    rw (get_or-eq_default s.words 0 past, zero-div)

pub member-empty : (j : ℕ) → member (record { words = replicate WORDS 0 }) j ≡ 0
unfolding member
member-empty j = rw (look-zeros WORDS (j / 64), zero-div)

pub insert_out : (s : Set) (m j : ℕ) → length s.words ≡ WORDS → SITES ≤ m → member s j ≡ adding (member s) m j
unfolding adding
insert_out s m j l h = same? j m
    (λ e. rw (pick_same e, less_none {a = m} {b = SITES} (λ k. omega arith), e) (member_out s m l h))
    (λ d. rw (pick_other d) refl)

pub insert_in : (s : Set) (m j : ℕ) → length s.words ≡ WORDS → m < SITES
    → member (record { words = set s.words (m / 64) (bit_or (get_or s.words (m / 64) 0) (1 * 2 ^ (m % 64) % 2 ^ 64)) }) j ≡ adding (member s) m j
unfolding member adding
insert_in s m j l h =
    let ws = s.words in
    let q = m / 64 in
    let x = bit_or (get_or ws q 0) (1 * 2 ^ (m % 64) % 2 ^ 64) in
    rw (less_one h) (same? (j / 64) q
    (λ e. rw (e, get_or-set_same ws q x 0 (omega arith), or-bit (get_or ws q 0) (m % 64) (j % 64) (omega arith)) (same? j m
    (λ d. rw (pick_same d, pick_same (ap (λ n. n % 64) d)) refl)
    (λ d. rw (pick_other d, pick_other {u = j % 64} {v = m % 64} (λ f. d (omega arith))) refl)))
    (λ n. rw (get_or-set_other ws q (j / 64) x 0 n, pick_other {u = j} {v = m} (λ f. n (ap (λ k. k / 64) f))) refl))

-- ---- the members of one word counted

pub count_word : (s : Set) (q : ℕ) → get_or s.words q 0 < 2 ^ 64 → sum (q * 64 + 64) (member s) ≡ sum (q * 64) (member s) + ones (get_or s.words q 0)
count_word s q h = omega (
  arith,
  sum-split (member s) (q * 64) 64,
  sum-eq 64 (λ i. member s (q * 64 + i)) (bit (get_or s.words q 0)) (λ i l. member-bit s q i l),
  ones-sum 64 (get_or s.words q 0) h,
)

-- ---- the next member, from bit k of the word q up

-- the first member from p up
abbrev pub rest : Set → ℕ → Option ℕ
rest s p = first_from (member s) p (SITES - p)

pub rest-none : (s : Set) (p : ℕ) → SITES ≤ p → rest s p ≡ None
unfolding first_from
rest-none s p h = let z : SITES - p ≡ 0 = omega arith in rw z

module _ (s : Set) (q k : ℕ) (in_words_lem : q < WORDS) (in_word : k < 64) where
  from-k : (j : ℕ) → k + j < 64 → member s (q * 64 + k + j) ≡ bit (get_or s.words q 0) (k + j)
  from-k j l = rw (add_assoc) (member-bit s q (k + j) l)

  -- where a bit from k up is set, the trailing zeros lead to it
  pub next_here : get_or s.words q 0 < 2 ^ 64 → get_or s.words q 0 / 2 ^ k ≢ 0 →
      let t = count_trailing_zeros 64 (get_or s.words q 0 / 2 ^ k) in
      (k + t < 64) × (rest s (q * 64 + k) ≡ Some (q * 64 + k + t))
  next_here h n =
      let p = q * 64 + k in
      let t = count_trailing_zeros 64 (get_or s.words q 0 / 2 ^ k) in
      let b = next_bit (get_or s.words q 0) k h n in
      let left = SITES - p - t - 1 in
      let e : SITES - p ≡ t + suc left = omega (arith, b.below) in (
        b.below,
        ap (first_from (member s) p) e
            ∙ first_skip (member s) p t (suc left) (λ j l o. omega (arith, from-k j (omega (arith, b.below)), b.miss j l))
            ∙ first_hit (member s) (p + t) left (from-k t b.below ∙ b.hit),
      )

  -- where none is, the next word is to be looked at
  pub next-later : get_or s.words q 0 / 2 ^ k ≡ 0 → rest s (q * 64 + k) ≡ rest s ((q + 1) * 64 + 0)
  next-later z =
      let p = q * 64 + k in
      let p' = (q + 1) * 64 + 0 in
      let e : SITES - p ≡ (64 - k) + (SITES - p') = omega arith in
      let there : p + (64 - k) ≡ p' = omega arith in
      ap (first_from (member s) p) e
      ∙ first_skip (member s) p (64 - k) (SITES - p') (λ j l o. omega (arith, from-k j (omega arith), no_bit (get_or s.words q 0) k j z))
      ∙ ap (λ n. first_from (member s) n (SITES - p')) there
