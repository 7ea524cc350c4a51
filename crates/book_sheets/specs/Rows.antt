-- The fields of a line are read back; decimals are numbers, and `s` before one is a name of its own. By induction over the bytes.
use Rattle.std.specs.Prelude.{◌≡◌, Bool, true, false, ◌&&◌, ◌||◌, ◌≢◌, ℕ, zero, suc, ◌+◌, ◌/◌, ◌%◌, ◌≤◌, ◌<◌, leb, length}
use Rattle.std.proofs.Math.Path.{refl}
use Rattle.std.proofs.Common.{sym, ap, ◌∙◌, arith, ne_eqb, le-leb, lt-ltb, le-ltb}
use mathlib.Core.List.{List, [], ◌∷◌, ◌++◌, append_assoc, append-nil, tail-eq_of_cons-eq}
use Rattle.std.proofs.Math.Decide.{dec_lt}
use Rattle.std.proofs.lemmas.Bool.{lt-leb}
use Rattle.lists.specs.Numbers.{Each}
use Rattle.lists.specs.Sums.{cases}
use Rattle.lists.specs.Tallies.{each_append, each_map}
use Rattle.text_fields.specs.Fields.{push, fields, all, is_digit, digits_alone, is_letter_or_digit, is_name, is_number, capitals, SameName, value}
use Rattle.text_writers.specs.Fields.{digits, decimal, line}
use Rattle.text_writers.specs.Decimal.{decimal-within}
use Rattle.demands.specs.Parsing.{Plain, decimal-plain, decimal_read_back}
use Rattle.book_sheets.specs.Sheet.{site_name}

-- ---- fields

-- fields parted by one tab: a line without its byte 10
unfoldable pub row : List (List ℕ) → List ℕ
row [] = []
row (f ∷ []) = f
row (f ∷ g ∷ fs) = f ++ (9 ∷ row (g ∷ fs))

pub line_row : (f : List ℕ) (fs : List (List ℕ)) (rest : List ℕ) → line (f ∷ fs) ++ rest ≡ row (f ∷ fs) ++ (10 ∷ rest)
unfolding line row
line_row f [] rest = append_assoc f (10 ∷ []) rest
line_row f (g ∷ fs) rest = append_assoc f (9 ∷ line (g ∷ fs)) rest ∙ ap (λ r. f ++ (9 ∷ r)) (line_row g fs rest)
    ∙ sym (append_assoc f (9 ∷ row (g ∷ fs)) (10 ∷ rest))

plain-front : (f : List ℕ) → Plain f → (x g : List ℕ) (gs : List (List ℕ)) → fields x ≡ g ∷ gs → fields (f ++ x) ≡ (f ++ g) ∷ gs
unfolding fields push
plain-front [] p x g gs e = e
plain-front (b ∷ f) p x g gs e = rw (ne_eqb b 9 (λ z. absurd (omega (arith, p.0))), plain-front f p.1 x g gs e)

tab_front : (x : List ℕ) → fields (9 ∷ x) ≡ [] ∷ fields x
unfolding fields
tab_front x = refl

no_field : fields [] ≡ [] ∷ []
unfolding fields
no_field = refl

pub fields_back : (f : List ℕ) (fs : List (List ℕ)) → Each Plain (f ∷ fs) → fields (row (f ∷ fs)) ≡ f ∷ fs
unfolding row
fields_back f [] p = ap fields (sym (append-nil f)) ∙ plain-front f p.0 [] [] [] no_field ∙ ap (λ g. g ∷ []) (append-nil f)
fields_back f (g ∷ fs) p = plain-front f p.0 (9 ∷ row (g ∷ fs)) [] (g ∷ fs) (tab_front (row (g ∷ fs)) ∙ ap (λ r. [] ∷ r) (fields_back g fs p.1))
    ∙ ap (λ h. h ∷ g ∷ fs) (append-nil f)

-- no byte ends the line
abbrev pub NoEnd : List ℕ → Type 0
NoEnd l = Each (λ b. b ≢ 10) l

plain_no_end : (f : List ℕ) → Plain f → NoEnd f
plain_no_end f p = each_map (λ b. 45 ≤ b) (λ b. b ≢ 10) (λ b h e. absurd (omega arith)) f p

pub row_no_end : (fs : List (List ℕ)) → Each Plain fs → NoEnd (row fs)
unfolding row
row_no_end [] p = tt
row_no_end (f ∷ []) p = plain_no_end f p.0
row_no_end (f ∷ g ∷ fs) p = each_append (λ b. b ≢ 10) f (9 ∷ row (g ∷ fs)) (plain_no_end f p.0) ((λ e. absurd (omega arith)), row_no_end (g ∷ fs) p.1)

-- ---- decimals

abbrev Digits : List ℕ → Type 0
Digits f = Each (λ b. (48 ≤ b) × (b ≤ 57)) f

digits_are_digits : (fuel n : ℕ) → Digits (digits fuel n)
unfolding digits
digits_are_digits zero n = tt
digits_are_digits (suc fuel) n = cases (dec_lt n 10)
    (λ l. rw (lt-ltb _ _ l) ((omega arith, omega arith), tt))
    (λ l. let h : 10 ≤ n = omega arith in
    rw (le-ltb _ _ h)
    (each_append (λ b. (48 ≤ b) × (b ≤ 57)) (digits fuel (n / 10)) ((48 + n % 10) ∷ []) (digits_are_digits fuel (n / 10)) ((omega arith, omega arith), tt)))

pub decimal-digits : (n : ℕ) → Digits (decimal n)
unfolding decimal
decimal-digits n = digits_are_digits (suc n) n

all_digits : (f : List ℕ) → Digits f → all is_digit f ≡ true
unfolding all
all_digits [] d = refl
all_digits (b ∷ f) d = rw (le-leb 48 b d.0.0, le-leb b 57 d.0.1, all_digits f d.1)

or-true : (b : Bool) → (b || true) ≡ true
or-true true = refl
or-true false = refl

all_letters_or_digits : (f : List ℕ) → Digits f → all is_letter_or_digit f ≡ true
unfolding all
all_letters_or_digits [] d = refl
all_letters_or_digits (b ∷ f) d =
    rw (le-leb 48 b d.0.0, le-leb b 57 d.0.1, all_letters_or_digits f d.1, or-true ((leb 65 b && leb b 90) || (leb 97 b && leb b 122)))

-- a number above 0 does not begin with a 0
begins : (fuel n : ℕ) → n < fuel → 1 ≤ n → (b : ℕ) × ((bs : List ℕ) × (digits fuel n ≡ b ∷ bs) × (48 < b))
unfolding digits
begins zero n l h = absurd (omega arith)
begins (suc fuel) n l h = cases (dec_lt n 10)
    (λ s. (48 + n, ([], rw (lt-ltb _ _ s), omega arith)))
    (λ s. let large : 10 ≤ n = omega arith in
    let r = begins fuel (n / 10) (omega arith) (omega arith) in
    (r.0, (r.1.0 ++ ((48 + n % 10) ∷ []), rw (le-ltb _ _ large, r.1.1), r.1.2)))

number-begun : (b : ℕ) (bs : List ℕ) → Digits (b ∷ bs) → 48 < b → is_number (b ∷ bs) ≡ true
unfolding is_number
number-begun b bs d h = rw (le-leb 48 b d.0.0, le-leb b 57 d.0.1, all_digits bs d.1, lt-ltb 48 b h)

pub a-decimal-is-a-number : (n : ℕ) → is_number (decimal n) ≡ true
unfolding decimal
a-decimal-is-a-number zero = unfold digits is_number all in refl
a-decimal-is-a-number (suc n) =
    let r = begins (suc (suc n)) (suc n) (omega arith) (omega arith) in
    let d : Digits (r.0 ∷ r.1.0) = rw r.1.1 at (digits_are_digits (suc (suc n)) (suc n)) in
    rw r.1.1 (number-begun r.0 r.1.0 d r.1.2)

-- ---- names

pub a-site-name-is-a-name : (v : ℕ) → v < 1000 → is_name (site_name v) ≡ true
unfolding is_name all
a-site-name-is-a-name v h =
    let short = decimal-within 2 v h in
    rw (
      le-leb 1 (suc (length (decimal v))) (omega arith),
      le-leb (suc (length (decimal v))) 12 (omega arith),
      all_letters_or_digits (decimal v) (decimal-digits v),
    )

pub a_site_name_is_not_bare : (v : ℕ) → digits_alone (site_name v) ≡ false
unfolding all
a_site_name_is_not_bare v = refl

pub a-site-name-is-plain : (v : ℕ) → Plain (site_name v)
a-site-name-is-plain v = (omega arith, decimal-plain v)

capitals_stay : (f : List ℕ) → Digits f → capitals f ≡ f
unfolding capitals
capitals_stay [] d = refl
capitals_stay (b ∷ f) d = rw (lt-leb 97 b (omega (arith, d.0.1))) (ap (λ r. b ∷ r) (unfold capitals in capitals_stay f d.1))

name_in_capitals : (v : ℕ) → capitals (site_name v) ≡ 83 ∷ decimal v
unfolding capitals
name_in_capitals v = ap (λ r. 83 ∷ r) (capitals_stay (decimal v) (decimal-digits v))

-- two sites of the same name are one
pub names_tell_sites : (u v : ℕ) → SameName (site_name u) (site_name v) → u ≡ v
names_tell_sites u v e =
    let same : decimal u ≡ decimal v = tail-eq_of_cons-eq (sym (name_in_capitals u) ∙ e ∙ name_in_capitals v) in
    sym (decimal_read_back u) ∙ ap value same ∙ decimal_read_back v
