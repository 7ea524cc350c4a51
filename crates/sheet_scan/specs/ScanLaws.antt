-- The line at an offset by its bytes: letters and digits belong to the field that is next to end, a tab ends it, byte 10 ends the line. So a line that is a
-- letter, names and numbers, parted by tabs, has these fields. By induction over the bytes of a field.
use Rattle.std.specs.Prelude.{Bool, true, false, ◌&&◌, ◌||◌, List, [], ◌∷◌, ◌⊎◌, ◌≢◌, ◌≡◌, refl, ℕ, zero, suc, ◌+◌, ◌-◌, ◌*◌, ◌^◌, ◌≤◌, ◌<◌, eqb, leb, ltb, length, get_or, take}
use Rattle.std.proofs.Math.Bool.{and-false, or-true}
use Rattle.std.proofs.Common.{true≢false, sym, ◌∙◌, arith, get_or-take, get_or-drop}
use Rattle.std.proofs.Math.Logic.{⊎_elim}
use Rattle.std.proofs.Math.Decide.{dec_lt}
use Rattle.std.proofs.Math.Nat.{pow-succ', pow-le-pow_right}
use Rattle.std.proofs.Math.Numerals.{add-one}
use Rattle.std.proofs.Math.Seq.{slice, slice_empty, slice-cons, length-slice, drop-cons}
use borrow.Author.Tests.{eq-eqb, lt-ltb, leb-true, le-leb, lt-leb, ne_eqb}
use Rattle.text_lines.specs.Lines.{line_at}
use Rattle.text_lines.specs.LineLaws.{line_length_step}
use Rattle.text_fields.specs.Fields.{push, fields, all, is_digit, is_letter_or_digit, is_name, value_from}
use Rattle.text_fields.specs.FieldLaws.{both, fails, each_passes, number_is}
use Rattle.lists.specs.Sums.{cases}
use Rattle.sheet_scan.specs.Scan.{Run, SomeLetter, NameAt, DigitsAt, NumberAt}

-- ---- the first byte of a line

module _ (s : List ℕ) (at : ℕ) (h : at < length s) where
  line_goes_on : get_or s at 0 ≢ 10 → line_at s at ≡ get_or s at 0 ∷ line_at s (at + 1)
  unfolding line_at
  line_goes_on d = ⊎_elim (λ t. absurd (d t.0)) (λ t. rw (t.1, drop-cons s at 0 h, add-one at)) (line_length_step s at h)

  line-is-over : get_or s at 0 ≡ 10 → line_at s at ≡ []
  unfolding line_at
  line-is-over e = ⊎_elim (λ t. rw t.1) (λ t. absurd (t.0 e)) (line_length_step s at h)

  -- at a tab a field is over, and at byte 10 the last one
  at_a_tab : get_or s at 0 ≡ 9 → (fields (line_at s at) ≡ [] ∷ fields (line_at s (at + 1))) × (length (line_at s at) ≡ 1 + length (line_at s (at + 1)))
  unfolding fields
  at_a_tab e = rw (line_goes_on (λ t. omega arith), e) (refl, omega arith)

  at_the_end : get_or s at 0 ≡ 10 → (fields (line_at s at) ≡ [] ∷ []) × (length (line_at s at) ≡ 0)
  unfolding fields
  at_the_end e = rw (line-is-over e) (refl, refl)

  -- any other byte belongs to the field that is next to end
  plain_byte : 48 ≤ get_or s at 0 → (f : List ℕ) (fs : List (List ℕ)) → fields (line_at s (at + 1)) ≡ f ∷ fs
      → (fields (line_at s at) ≡ (get_or s at 0 ∷ f) ∷ fs) × (length (line_at s at) ≡ 1 + length (line_at s (at + 1)))
  unfolding fields push
  plain_byte l f fs q = rw (line_goes_on (λ t. omega arith), ne_eqb (get_or s at 0) 9 (λ t. omega arith), q) (refl, omega arith)

-- ---- the bytes of a field

-- bytes that part no fields and end no line, from one offset on, before another
abbrev pub Plain : List ℕ → ℕ → ℕ → Type 0
Plain s from to = (k : ℕ) → from ≤ k → k < to → 48 ≤ get_or s k 0

-- such bytes, up to the end of a field, are that field
plain-bytes : (m : ℕ) (s : List ℕ) (from to : ℕ) → from + m ≡ to → to < length s → Plain s from to → (fs : List (List ℕ))
    → fields (line_at s to) ≡ [] ∷ fs
    → (fields (line_at s from) ≡ slice from to s ∷ fs) × (from + length (line_at s from) ≡ to + length (line_at s to))
plain-bytes zero s from to e h p fs q = let here : from ≡ to = omega arith in rw (here, slice_empty to s) (q, refl)
plain-bytes (suc m) s from to e h p fs q =
    let rest = plain-bytes m s (from + 1) to (omega arith) h (λ k l r. p k (omega arith) r) fs q in
    let first = plain_byte s from (omega arith) (p from (omega arith) (omega arith)) (slice (from + 1) to s) fs rest.0 in
    rw (slice-cons from to s 0 (omega arith) (omega arith), ← add-one) (first.0, omega (arith, first.1, rest.1))

module _ (s : List ℕ) (from to : ℕ) (o : from ≤ to) (h : to < length s) (p : Plain s from to) where
  -- a field that a tab ends, and the last field
  pub field_and_more : get_or s to 0 ≡ 9
      → (fields (line_at s from) ≡ slice from to s ∷ fields (line_at s (to + 1)))
      × (from + length (line_at s from) ≡ to + 1 + length (line_at s (to + 1)))
  field_and_more e =
      let t = at_a_tab s to h e in
      let r = plain-bytes (to - from) s from to (omega arith) h p _ t.0 in
      (r.0, omega (arith, r.1, t.1))

  pub field-and-end : get_or s to 0 ≡ 10 → (fields (line_at s from) ≡ slice from to s ∷ []) × (from + length (line_at s from) ≡ to)
  field-and-end e =
      let t = at_the_end s to h e in
      let r = plain-bytes (to - from) s from to (omega arith) h p _ t.0 in
      (r.0, omega (arith, r.1, t.1))

-- ---- runs

-- a letter or a digit is neither a tab nor byte 10
pub digit_bounds : (b : ℕ) → is_digit b ≡ true → (48 ≤ b) × (b ≤ 57)
digit_bounds b e = let h = both (leb 48 b) (leb b 57) e in (leb-true 48 b h.0, leb-true b 57 h.1)

either : (a b : Bool) {P : Type 0} → (a ≡ true → P) → (b ≡ true → P) → (a || b) ≡ true → P
either true b f g e = f refl
either false b f g e = g e

name_byte_is_above : (b : ℕ) → is_letter_or_digit b ≡ true → 48 ≤ b
name_byte_is_above b =
    either ((leb 65 b && leb b 90) || (leb 97 b && leb b 122)) (is_digit b)
    (either (leb 65 b && leb b 90) (leb 97 b && leb b 122)
    (λ e. omega (arith, leb-true 65 b (both (leb 65 b) (leb b 90) e).0))
    (λ e. omega (arith, leb-true 97 b (both (leb 97 b) (leb b 122) e).0)))
    (λ e. (digit_bounds b e).0)

-- a byte above the digits is none
pub above_is_no_digit : (b : ℕ) → 57 < b → is_digit b ≡ false
above_is_no_digit b h = rw (lt-leb b 57 h) (and-false (leb 48 b))

module _ (s : List ℕ) (from to : ℕ) where
  pub digits_are_plain : Run is_digit s from to → Plain s from to
  digits_are_plain run k l m = (digit_bounds (get_or s k 0) (run k l m)).0

  pub name-is-plain : Run is_letter_or_digit s from to → Plain s from to
  name-is-plain run k l m = name_byte_is_above (get_or s k 0) (run k l m)

-- a run is longer by a byte that passes
pub run_more : (p : ℕ → Bool) (s : List ℕ) (from to : ℕ) → Run p s from to → p (get_or s to 0) ≡ true → Run p s from (to + 1)
run_more p s from to r e k l m = cases (dec_lt k to) (λ h. r k l h) (λ h. let here : k ≡ to = omega arith in rw here e)

-- the bytes of a run all pass
run_passes : (p : ℕ → Bool) (m : ℕ) (s : List ℕ) (from to : ℕ) → from + m ≡ to → to ≤ length s → Run p s from to → all p (slice from to s) ≡ true
unfolding all
run_passes p zero s from to e h r = let here : from ≡ to = omega arith in rw (here, slice_empty to s)
run_passes p (suc m) s from to e h r =
    let rest = run_passes p m s (from + 1) to (omega arith) h (λ k l n. r k (omega arith) n) in
    rw (slice-cons from to s 0 (omega arith) h, r from (omega arith) (omega arith)) (rw add-one at rest)

module _ (p : ℕ → Bool) (s : List ℕ) (from to : ℕ) (h : to ≤ length s) where
  pub all_of_a_run : from ≤ to → Run p s from to → all p (slice from to s) ≡ true
  all_of_a_run o r = run_passes p (to - from) s from to (omega arith) h r

  -- a byte that fails is one of the part
  pub not_all_of_a_part : (k : ℕ) → from ≤ k → k < to → p (get_or s k 0) ≡ false → all p (slice from to s) ≡ false
  not_all_of_a_part k l m e = fails (all p (slice from to s)) (λ t. true≢false (sym (passes t) ∙ e))
    where
      place : from + (k - from) ≡ k
      place = omega arith

      passes : all p (slice from to s) ≡ true → p (get_or s k 0) ≡ true
      passes t =
          rw (get_or-drop from (take to s) (k - from) 0, place, get_or-take to s k 0 m) at
          (each_passes p (slice from to s) 0 t (k - from) (omega (arith, length-slice from to s h)))

-- ---- names and numbers

-- up to twelve letters and digits, with a letter among them, are a name
pub a_run_is_a_name : (s : List ℕ) (from to stop : ℕ) → from < to → to ≤ from + 12 → to < length s → Run is_letter_or_digit s from to → SomeLetter s from to
    → get_or s to 0 ≡ stop → NameAt s from to stop
unfolding is_name
a_run_is_a_name s from to stop o few h r some e =
    let within : to ≤ length s = omega arith in
    let long = length-slice from to s within in
    record {
      on_sheet = h;
      run = r;
      name = rw (
        le-leb 1 (length (slice from to s)) (omega arith),
        le-leb (length (slice from to s)) 12 (omega arith),
        all_of_a_run is_letter_or_digit s from to within (omega arith) r,
      );
      lettered = not_all_of_a_part is_digit s from to within some.0 some.1 some.2 some.3;
      followed = e;
    }

-- digits are a number: one, or more of which the first is no zero
pub digits_are_a_number : (s : List ℕ) (from to v most : ℕ) → DigitsAt s from to v → from < to → v ≤ most → (to ≡ from + 1) ⊎ (get_or s from 0 ≢ 48)
    → NumberAt s from to v most
digits_are_a_number s from to v most d o w one = record {
  digits = d;
  number = number_is (slice from to s) (omega (arith, long)) ∙ rw (all_of_a_run is_digit s from to within (omega arith) d.run) (⊎_elim alone several one);
  within = w;
}
  where
    within : to ≤ length s
    within = omega (arith, d.on_sheet)

    long : length (slice from to s) ≡ to - from
    long = length-slice from to s within

    alone : to ≡ from + 1 → (ltb 48 (get_or (slice from to s) 0 0) || eqb (length (slice from to s)) 1) ≡ true
    alone e = rw (eq-eqb (length (slice from to s)) 1 (omega (arith, long))) (or-true (ltb 48 (get_or (slice from to s) 0 0)))

    several : get_or s from 0 ≢ 48 → (ltb 48 (get_or (slice from to s) 0 0) || eqb (length (slice from to s)) 1) ≡ true
    several z = rw (slice-cons from to s 0 o within, lt-ltb 48 (get_or s from 0) (omega (arith, z, digit_bounds (get_or s from 0) (d.run from (omega arith) o))))

-- a value of so many digits, and of one more
pub one_digit_more : (v k d : ℕ) → v < 10 ^ k → d ≤ 9 → v * 10 + d < 10 ^ suc k
one_digit_more v k d h l = rw (pow-succ' 10 k) (omega arith)

-- eight digits are few
pub few_digits : (v k : ℕ) → v < 10 ^ k → k ≤ 8 → v < 100000000
few_digits v k h l = omega (arith, pow-le-pow_right {n = 10} (omega arith) {i = k} {j = 8} l)

-- the value of digits from one offset on goes on with the next digit
pub value_on : (s : List ℕ) (v i to : ℕ) → i < to → to ≤ length s
    → value_from v (slice i to s) ≡ value_from (v * 10 + (get_or s i 0 - 48)) (slice (i + 1) to s)
unfolding value_from
value_on s v i to l h = rw (slice-cons i to s 0 l h, add-one)

pub value-over : (s : List ℕ) (v i : ℕ) → value_from v (slice i i s) ≡ v
unfolding value_from
value-over s v i = rw (slice_empty i s)
