-- Laws of fields, by induction over the bytes: strings are the same just if they are equal; the elements of a list are tested one by one;
-- and the fields of a line are the bytes up to its first tab and the fields of what follows.
use Rattle.std.specs.Prelude.{Bool, true, false, cond, ◌&&◌, ◌||◌, List, [], ◌∷◌, ◌⊎◌, ◌≢◌, ◌≡◌, refl, ℕ, zero, suc, ◌+◌, ◌-◌, ◌≤◌, ◌<◌, eqb, leb, ltb, length, get_or, take, drop}
use Rattle.std.proofs.Math.Bool.{and-true, or-true, or-false, and-eq-true_iff}
use Rattle.std.proofs.Common.{true≢false, inl, inr, ⊎_elim, sym, ap, ◌∙◌, ext_get_or, get_or-take, get_or-drop, add-one, arith, drop-cons, eqb-true, eq-eqb, leb-true, ltb-true, ltb-false}
use Rattle.std.proofs.Math.Dec.{eqb-suc-suc}
use Rattle.std.proofs.lemmas.Bool.{eqb-false}
use borrow.Author.Tests.{ne_eqb}
use Rattle.std.proofs.Math.Decide.{dec_lt}
use Rattle.std.specs.Cmp.Lexicographic.{pointwise, bytes_decides}
use Rattle.std.specs.List.{list_all}
use Rattle.text_fields.specs.Fields.{same, all, is_digit, is_letter_or_digit, is_name, is_number, push, fields, field_length}

-- ---- strings

-- both parts of a test that passes
pub both : (a b : Bool) → (a && b) ≡ true → (a ≡ true) × (b ≡ true)
both a b = (and-eq-true_iff a b).0

-- a test that cannot pass fails
pub fails : (t : Bool) → (t ≡ true → ⊥) → t ≡ false
fails true d = absurd (d refl)
fails false d = refl

-- strings that are the same are equal
pub same_are_equal : (a b : List ℕ) → same a b ≡ true → a ≡ b
unfolding same
same_are_equal [] [] e = refl
same_are_equal [] (y ∷ b) e = cc
same_are_equal (x ∷ a) [] e = cc
same_are_equal (x ∷ a) (y ∷ b) e =
    let h = both (eqb x y) (same a b) e in
    let heads = eqb-true x y h.0 in
    let tails = same_are_equal a b h.1 in
    cc

-- and equal strings are the same
pub equal_are_same : (a : List ℕ) → same a a ≡ true
unfolding same
equal_are_same [] = refl
equal_are_same (x ∷ a) = rw (eq-eqb x x refl) (equal_are_same a)

-- strings that differ are not the same
pub not_same : (a b : List ℕ) → (a ≡ b → ⊥) → same a b ≡ false
not_same a b d = fails (same a b) (λ e. d (same_are_equal a b e))

-- they are compared byte by byte, as slices are
pub compared : (a b : List ℕ) → pointwise eqb a b ≡ same a b
unfolding same
compared [] [] = refl
compared [] (y ∷ b) = refl
compared (x ∷ a) [] = refl
compared (x ∷ a) (y ∷ b) = ap (λ t. eqb x y && t) (compared a b)

-- strings of 8 to 16 bytes are the same just if their first eight bytes and their last are
pub same_by_ends : (a b : List ℕ) → length a ≡ length b → 8 ≤ length a → length a ≤ 16
    → (pointwise eqb (take 8 a) (take 8 b) && pointwise eqb (drop (length a - 8) a) (drop (length b - 8) b)) ≡ same a b
same_by_ends a b e low high = by (pointwise eqb (take 8 a) (take 8 b)) refl (pointwise eqb (drop (length a - 8) a) (drop (length b - 8) b)) refl
  where
    by : (t : Bool) → pointwise eqb (take 8 a) (take 8 b) ≡ t → (u : Bool) → pointwise eqb (drop (length a - 8) a) (drop (length b - 8) b) ≡ u
        → (pointwise eqb (take 8 a) (take 8 b) && pointwise eqb (drop (length a - 8) a) (drop (length b - 8) b)) ≡ same a b
    by false p u q = rw p (sym (not_same a b (λ z. true≢false (sym ((bytes_decides (take 8 a) (take 8 b)).1 (ap (take 8) z)) ∙ p))))
    by true p false q = rw (p, q) (sym (not_same a b (λ z. true≢false (sym ((bytes_decides _ _).1 (ap (λ l. drop (length l - 8) l) z)) ∙ q))))
    by true p true q =
        let fronts = (bytes_decides (take 8 a) (take 8 b)).0 p in
        let backs = (bytes_decides (drop (length a - 8) a) (drop (length b - 8) b)).0 q in
        let whole : a ≡ b = ext_get_or 0 a b e (λ k h. elim (dec_lt k 8) [
          | yes l ↦ sym (get_or-take 8 a k 0 l) ∙ ap (λ l. get_or l k 0) fronts ∙ get_or-take 8 b k 0 l
          | no l ↦
              let at : length a - 8 + (k - (length a - 8)) ≡ k = omega arith in
              let at2 : length b - 8 + (k - (length a - 8)) ≡ k = omega arith in
              let here = ap (λ l. get_or l (k - (length a - 8)) 0) backs in
              rw at at (sym (get_or-drop (length a - 8) a (k - (length a - 8)) 0)) ∙ here ∙ rw at2 at (get_or-drop (length b - 8) b (k - (length a - 8)) 0)
        ]) in
        rw (p, q, whole) (sym (equal_are_same b))

-- a string of one byte is that byte
pub same-one : (a : List ℕ) (b : ℕ) → length a ≡ 1 → same a (b ∷ []) ≡ eqb (get_or a 0 0) b
unfolding same
same-one [] b e = absurd (omega arith)
same-one (x ∷ []) b e = and-true (eqb x b)
same-one (x ∷ y ∷ a) b e = absurd (omega arith)

-- a test of every byte from place i on, by the byte at i
pub all_step : (p : ℕ → Bool) (a : List ℕ) (i : ℕ) → i < length a → all p (drop i a) ≡ (p (get_or a i 0) && all p (drop (i + 1) a))
unfolding all
all_step p a i h = rw (drop-cons a i 0 h, add-one)

-- the test of every element is that of the library
pub all_of_list : (p : ℕ → Bool) (l : List ℕ) → list_all p l ≡ all p l
unfolding all
all_of_list p [] = refl
all_of_list p (x ∷ l) = ap (λ t. p x && t) (all_of_list p l)

-- where every element passes, each one does
pub each_passes : {A : Type 0} (p : A → Bool) (l : List A) (d : A) → all p l ≡ true → (k : ℕ) → k < length l → p (get_or l k d) ≡ true
unfolding all
each_passes p [] d e k h = absurd (omega arith)
each_passes p (x ∷ l) d e zero h = (both (p x) (all p l) e).0
each_passes p (x ∷ l) d e (suc k) h = each_passes p l d (both (p x) (all p l) e).1 k (omega arith)

-- and where not, some one fails
abbrev pub SomeFails : {A : Type 0} → (A → Bool) → List A → A → Type 0
SomeFails p l d = (k : ℕ) × (k < length l) × (p (get_or l k d) ≡ false)

pub some_one_fails : {A : Type 0} (p : A → Bool) (l : List A) (d : A) → all p l ≡ false → SomeFails p l d
unfolding all
some_one_fails p [] d e = absurd (true≢false e)
some_one_fails p (x ∷ l) d e = by (p x) refl (some_one_fails p l d) e
  where
    by : (t : Bool) → p x ≡ t → (all p l ≡ false → SomeFails p l d) → (t && all p l) ≡ false → SomeFails p (x ∷ l) d
    by true a later b = let h = later b in (suc h.0, omega arith, h.2)
    by false a later b = (0, omega arith, a)

-- ---- names and numbers

-- a number is a string of digits, and has one digit or starts with no zero
pub number_is : (s : List ℕ) → 0 < length s → is_number s ≡ (all is_digit s && (ltb 48 (get_or s 0 0) || eqb (length s) 1))
unfolding is_number all
number_is [] h = absurd (omega arith)
number_is (b ∷ s) h = rw (eqb-suc-suc (length s) 0)

pub number_has_a_digit : (s : List ℕ) → length s ≡ 0 → is_number s ≡ false
unfolding is_number
number_has_a_digit [] e = refl
number_has_a_digit (b ∷ s) e = absurd (omega arith)

-- a number of one digit is that digit
pub number_of_one : (s : List ℕ) → length s ≡ 1 → is_number s ≡ is_digit (get_or s 0 0)
unfolding is_number all
number_of_one [] e = absurd (omega arith)
number_of_one (b ∷ []) e = simp (or-true (ltb 48 b), and-true (is_digit b))
number_of_one (b ∷ x ∷ s) e = absurd (omega arith)

-- and one of more starts with no zero
pub number_of_more : (s : List ℕ) → 1 < length s → is_number s ≡ (all is_digit s && ltb 48 (get_or s 0 0))
number_of_more s h =
    let several : eqb (length s) 1 ≡ false = ne_eqb (length s) 1 (λ e. omega arith) in
    number_is s (omega arith) ∙ rw (several, or-false (ltb 48 (get_or s 0 0)))

-- a name has 1 to 12 bytes
pub name-length : (s : List ℕ) → is_name s ≡ true → (1 ≤ length s) × (length s ≤ 12)
unfolding is_name
name-length s e =
    let h = both (leb 1 (length s) && leb (length s) 12) (all is_letter_or_digit s) e in
    let k = both (leb 1 (length s)) (leb (length s) 12) h.0 in
    (leb-true 1 (length s) k.0, leb-true (length s) 12 k.1)

-- ---- fields

-- the first byte is a tab and the first field is empty, or it is another and belongs to the first field
pub first_byte : (b : ℕ) (bs : List ℕ)
    → ((b ≡ 9) × (field_length (b ∷ bs) ≡ 0) × (fields (b ∷ bs) ≡ [] ∷ fields bs))
    ⊎ ((b ≢ 9) × (field_length (b ∷ bs) ≡ suc (field_length bs)) × (fields (b ∷ bs) ≡ push b (fields bs)))
unfolding field_length fields
first_byte b bs = by (eqb b 9) refl
  where
    by : (t : Bool) → eqb b 9 ≡ t
        → ((b ≡ 9) × (cond (eqb b 9) 0 (suc (field_length bs)) ≡ 0) × (cond (eqb b 9) ([] ∷ fields bs) (push b (fields bs)) ≡ [] ∷ fields bs))
        ⊎ ((b ≢ 9) × (cond (eqb b 9) 0 (suc (field_length bs)) ≡ suc (field_length bs))
        × (cond (eqb b 9) ([] ∷ fields bs) (push b (fields bs)) ≡ push b (fields bs)))
    by true e = inl (eqb-true b 9 e, rw e, rw e)
    by false e = inr (eqb-false b 9 e, rw e, rw e)

field-length-within : (l : List ℕ) → field_length l ≤ length l
unfolding field_length
field-length-within [] = omega arith
field-length-within (b ∷ bs) = ⊎_elim (λ t. omega (arith, t.1)) (λ t. omega (arith, t.1, field-length-within bs)) (first_byte b bs)

-- a line with no tab is one field
pub last_field_lem : (l : List ℕ) → field_length l ≡ length l → fields l ≡ l ∷ []
unfolding fields push
last_field_lem [] e = refl
last_field_lem (b ∷ bs) e = ⊎_elim (λ t. absurd (omega (arith, t.1))) (λ t. t.2 ∙ ap (push b) (last_field_lem bs (omega (arith, t.1)))) (first_byte b bs)

-- a line with a tab is the bytes before it, and the fields of what follows it
pub first_field : (l : List ℕ) → field_length l < length l → fields l ≡ take (field_length l) l ∷ fields (drop (field_length l + 1) l)
unfolding push
first_field [] h = absurd (omega arith)
first_field (b ∷ bs) h = ⊎_elim
    (λ t. t.2 ∙ rw t.1)
    (λ t. t.2 ∙ ap (push b) (first_field bs (omega (arith, t.1))) ∙ rw (t.1, add-one, add-one))
    (first_byte b bs)

-- a line has no tab, and is one field; or it has one, and there are more
pub tab_or_none : (l : List ℕ) → (field_length l ≡ length l) ⊎ (field_length l < length l)
tab_or_none l = by (ltb (field_length l) (length l)) refl
  where
    by : (t : Bool) → ltb (field_length l) (length l) ≡ t → (field_length l ≡ length l) ⊎ (field_length l < length l)
    by true e = inr (ltb-true _ _ e)
    by false e = inl (omega (arith, ltb-false (field_length l) (length l) e, field-length-within l))

-- there is always a field
pub some-field : (l : List ℕ) → (f : List ℕ) × (fs : List (List ℕ)) × (fields l ≡ f ∷ fs)
unfolding fields push
some-field [] = ([], [], refl)
some-field (b ∷ l) = let h = some-field l in ⊎_elim (λ t. ([], fields l, t.2)) (λ t. (b ∷ h.0, h.1, t.2 ∙ ap (push b) h.2)) (first_byte b l)
