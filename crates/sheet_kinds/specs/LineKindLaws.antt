-- What a site and a link are made of: a line has the form just if it has these parts. And lines by the number of their fault and by their capacity.
use Rattle.std.specs.Prelude.{Bool, cond, List, [], ◌∷◌, ◌⊎◌, ◌↔◌, ◌≢◌, ◌≡◌, ℕ, ◌+◌, ◌-◌, ◌≤◌, ◌<◌, length, Ok, Some, None, Result, Err, MatchResult, IsErrAnd}
use Rattle.std.proofs.Math.Bool.{true, false}
use Rattle.std.proofs.Common.{inl, inr, ⊎_elim, ap, arith, leb-true, leb-false, le-leb}
use Rattle.std.proofs.Math.Path.{refl}
use Rattle.std.proofs.Math.Dec.{leb}
use Rattle.std.proofs.Math.ListN.{get_or-eq_default}
use Rattle.model.specs.Text.{bytes}
use Rattle.model.specs.declared.Sizing.{Sizing}
use Rattle.model.specs.declared.Sizing.TheVariants.{Reserved, Low, High}
use Rattle.lists.specs.Sums.{contradiction}
use Rattle.text_grammar.specs.Grammar.{Check, number_of}
use Rattle.text_grammar.specs.declared.Broken.TheVariants.{Letter, Count, Name, Digits, Number}
use Rattle.text_grammar.specs.FormLaws.{formed_or_faulty}
use Rattle.text_grammar.specs.RuleLaws as rule
pub use Rattle.text_fields.specs.FieldLaws.{both, same_are_equal, equal_are_same, name-length}
use Rattle.sheet_kinds.specs.LineKinds.{same, field, all, digits_alone, is_name, is_number, value, checked_fields, checked, fault_of, site_form, link_form}
use Rattle.sheet_kinds.specs.LineKinds.{IsSite, IsLink, judged, mark, reserve, value_from, size_of, least_numbers, taken, paired, capacity_of}

-- what holds of a line, formed or not
pub judged_cases : {A : Type 0} (P : Result A ℕ → Type 0) (c : Check) (w : Result A ℕ) → (c ≡ Ok tt → P w) → (c ≢ Ok tt → P (Err (fault_of c))) → P (judged c w)
unfolding judged fault_of
judged_cases P c w f g = ⊎_elim (λ e. rw e (f e)) (λ h. rw h.1 (g h.0)) (formed_or_faulty c)

-- two fields, `N` or `T`, and a name, not of digits alone
pub record SiteParts (fs : List (List ℕ)) : Type 0 where
  pub count : length fs ≡ 2
  pub letter : (field fs 0 ≡ bytes "N") ⊎ (field fs 0 ≡ bytes "T")
  pub name : is_name (field fs 1) ≡ true
  pub lettered : digits_alone (field fs 1) ≡ false

-- four or five fields, on a range sheet five, `L`, two names, neither of digits alone, and a number, and a number where there is a fifth
pub record LinkParts (z : Sizing) (fs : List (List ℕ)) : Type 0 where
  pub least : 3 + least_numbers z ≤ length fs
  pub enough : 4 ≤ length fs
  pub no_more : length fs ≤ 5
  pub letter : field fs 0 ≡ bytes "L"
  pub name : is_name (field fs 1) ≡ true
  pub lettered : digits_alone (field fs 1) ≡ false
  pub name2 : is_name (field fs 2) ≡ true
  pub lettered2 : digits_alone (field fs 2) ≡ false
  pub size : is_number (field fs 3) ≡ true
  pub reserve : length fs ≡ 5 → is_number (field fs 4) ≡ true

-- by the letter
pub parts_of_a_site : (letter : ℕ) (fs : List (List ℕ)) → checked (site_form letter) fs ≡ Ok tt
    → (length fs ≡ 2) × (field fs 0 ≡ letter ∷ []) × (is_name (field fs 1) ≡ true) × (digits_alone (field fs 1) ≡ false)
parts_of_a_site letter fs e =
    let k = rule.a_formed_line_keeps_the_rules (site_form letter) fs e in
    let c = k.counted in
    (omega (arith, c.enough, c.no_more), c.letter, k.names_are_names 1 (omega arith) (omega arith), k.none_is_bare 1 (omega arith) (omega arith))

pub site_parts : (fs : List (List ℕ)) → IsSite fs → SiteParts fs
site_parts fs (inl e) = let h = parts_of_a_site 78 fs e in record { count = h.0; letter = inl h.1; name = h.2; lettered = h.3 }
site_parts fs (inr e) = let h = parts_of_a_site 84 fs e in record { count = h.0; letter = inr h.1; name = h.2; lettered = h.3 }

-- the letter is one byte
pub one_letter : (fs : List (List ℕ)) → SiteParts fs → length (field fs 0) ≡ 1
one_letter fs k = ⊎_elim (ap length) (ap length) k.letter

-- a site line is marked just where its letter is `T`, and else the letter is `N`
pub a_mark_tells_its_letter : (fs : List (List ℕ)) → (mark fs ≡ 1) ↔ (field fs 0 ≡ bytes "T")
unfolding mark same
a_mark_tells_its_letter fs = (λ e. same_are_equal (field fs 0) (bytes "T") (by (same (field fs 0) (bytes "T")) e), λ e. rw e)
  where
    by : (t : Bool) → let m : ℕ = cond t 1 0 in m ≡ 1 → t ≡ true
    by true e = refl
    by false e = absurd (omega arith)

pub no_mark_tells_its_letter : (fs : List (List ℕ)) → IsSite fs → (mark fs ≡ 0) ↔ (field fs 0 ≡ bytes "N")
unfolding mark same
no_mark_tells_its_letter fs is = (
  λ e. ⊎_elim (λ n. n) (λ t. absurd (omega (arith, (a_mark_tells_its_letter fs).1 t))) (site_parts fs is).letter,
  λ e. rw e,
)

-- there is at least one number, and at most two
pub some_numbers : (z : Sizing) → (1 ≤ least_numbers z) × (least_numbers z ≤ 2)
some_numbers Reserved = (omega arith, omega arith)
some_numbers Low = (omega arith, omega arith)
some_numbers High = (omega arith, omega arith)

pub link_parts : (z : Sizing) (fs : List (List ℕ)) → IsLink z fs → LinkParts z fs
link_parts z fs e =
    let k = rule.a_formed_line_keeps_the_rules (link_form z) fs e in
    let c = k.counted in
    let some = (some_numbers z).0 in
    record {
      least = omega (arith, c.enough);
      enough = omega (arith, c.enough);
      no_more = omega (arith, c.no_more);
      letter = c.letter;
      name = k.names_are_names 1 (omega arith) (omega arith);
      lettered = k.none_is_bare 1 (omega arith) (omega arith);
      name2 = k.names_are_names 2 (omega arith) (omega arith);
      lettered2 = k.none_is_bare 2 (omega arith) (omega arith);
      size = k.numbers_are_numbers 3 (omega arith) (omega (arith, c.enough));
      reserve = λ n. k.numbers_are_numbers 4 (omega arith) (omega arith);
    }

-- and these parts make the form
made_of : (letter : ℕ) (fs : List (List ℕ)) → length fs ≡ 2 → field fs 0 ≡ letter ∷ [] → is_name (field fs 1) ≡ true → digits_alone (field fs 1) ≡ false
    → checked (site_form letter) fs ≡ Ok tt
unfolding checked checked_fields all
made_of letter [] n e h l = absurd (omega arith)
made_of letter (a ∷ []) n e h l = absurd (omega arith)
made_of letter (a ∷ b ∷ []) n e h l = rw (e, equal_are_same (letter ∷ []), h, l)
made_of letter (a ∷ b ∷ c ∷ fs) n e h l = absurd (omega arith)

site_made : (fs : List (List ℕ)) → SiteParts fs → IsSite fs
site_made fs k =
    ⊎_elim (λ e. inl (made_of 78 fs k.count e k.name k.lettered)) (λ e. inr (made_of 84 fs k.count e k.name k.lettered)) k.letter

pub site_is_its_parts : (fs : List (List ℕ)) → IsSite fs ↔ SiteParts fs
site_is_its_parts fs = (site_parts fs, site_made fs)

link_made : (z : Sizing) (fs : List (List ℕ)) → LinkParts z fs → IsLink z fs
unfolding checked checked_fields all same
link_made z [] k = absurd (omega (arith, k.enough))
link_made z (a ∷ []) k = absurd (omega (arith, k.enough))
link_made z (a ∷ b ∷ []) k = absurd (omega (arith, k.enough))
link_made z (a ∷ b ∷ c ∷ []) k = absurd (omega (arith, k.enough))
link_made z (a ∷ b ∷ c ∷ d ∷ []) k = rw (k.letter, le-leb (3 + least_numbers z) 4 k.least, k.name, k.lettered, k.name2, k.lettered2, k.size)
link_made z (a ∷ b ∷ c ∷ d ∷ e ∷ []) k =
    rw (k.letter, le-leb (3 + least_numbers z) 5 k.least, k.name, k.lettered, k.name2, k.lettered2, k.size, k.reserve refl)
link_made z (a ∷ b ∷ c ∷ d ∷ e ∷ f ∷ fs) k = absurd (omega (arith, k.no_more))

pub link_is_its_parts : (z : Sizing) (fs : List (List ℕ)) → IsLink z fs ↔ LinkParts z fs
link_is_its_parts z fs = (link_parts z fs, link_made z fs)

-- ---- as the code finds it

-- by what `map_err` makes of the check: the number of the fault; a line that is formed is what it would be
pub numbered : {A : Type 0} (c : Check) (r : Result (Unit {0}) ℕ) → MatchResult c (λ x. r ≡ Ok x) (λ b. IsErrAnd r (λ n. n ≡ number_of b)) → (w : Result A ℕ)
    → MatchResult r (λ _. (c ≡ Ok tt) × (judged c w ≡ w)) (λ n. judged c w ≡ Err n)
unfolding judged fault_of
numbered (Ok u) (Ok x) h w = (refl, refl)
numbered (Ok u) (Err n) h w = contradiction cc
numbered (Err b) (Ok x) h w = absurd h
numbered (Err Letter) (Err n) h w = rw h
numbered (Err Count) (Err n) h w = rw h
numbered (Err Name) (Err n) h w = rw h
numbered (Err Digits) (Err n) h w = rw h
numbered (Err Number) (Err n) h w = rw h

-- a line without a fifth field has no reserve
pub no_fifth : (fs : List (List ℕ)) → length fs < 5 → reserve fs ≡ 0
unfolding value_from
no_fifth fs h = rw (get_or-eq_default fs [] {n = 4} (omega arith)) refl

pub no_reserve : (most : ℕ) (fs : List (List ℕ)) → length fs < 5 → size_of most (field fs 4) ≡ Some 0
unfolding size_of
no_reserve most fs h = rw (no_fifth fs h, le-leb 0 most (omega arith))

-- ---- by the two numbers

-- two numbers that give a capacity: the reserve is not above the size; the low size is not above the high one
abbrev pub Together : Sizing → ℕ → ℕ → Type 0
Together Reserved a b = b ≤ a
Together Low a b = a ≤ b
Together High a b = a ≤ b

-- two that give none, and the number of that fault
abbrev pub Apart : Sizing → ℕ → ℕ → Type 0
Apart Reserved a b = a < b
Apart Low a b = b < a
Apart High a b = b < a

abbrev pub apart_is : Sizing → ℕ
apart_is Reserved = 13
apart_is Low = 19
apart_is High = 19

pub taken-is-within : (z : Sizing) (a b most : ℕ) → a ≤ most → b ≤ most → taken z a b ≤ most
taken-is-within Reserved a b most h k = omega arith
taken-is-within Low a b most h k = h
taken-is-within High a b most h k = k

pub not-both : (z : Sizing) (a b : ℕ) → Together z a b → Apart z a b → ⊥
not-both Reserved a b h k = omega arith
not-both Low a b h k = omega arith
not-both High a b h k = omega arith

paired_cases : (P : Result ℕ ℕ → Type 0) (z : Sizing) (a b : ℕ) → (Apart z a b → P (Err (apart_is z))) → (Together z a b → P (Ok (taken z a b)))
    → P (paired z a b)
paired_cases P Reserved a b apart together = by (leb b a) refl
  where
    by : (t : Bool) → leb b a ≡ t → P (cond t (Ok (a - b)) (Err 13))
    by true e = together (leb-true _ _ e)
    by false e = apart (leb-false _ _ e)
paired_cases P Low a b apart together = by (leb a b) refl
  where
    by : (t : Bool) → leb a b ≡ t → P (cond t (Ok a) (Err 19))
    by true e = together (leb-true _ _ e)
    by false e = apart (leb-false _ _ e)
paired_cases P High a b apart together = by (leb a b) refl
  where
    by : (t : Bool) → leb a b ≡ t → P (cond t (Ok b) (Err 19))
    by true e = together (leb-true _ _ e)
    by false e = apart (leb-false _ _ e)

module _ (P : Result ℕ ℕ → Type 0) (z : Sizing) (most : ℕ) (f g : List ℕ) where
  -- what holds of a capacity: either is above the limit; or neither, and the two give no capacity; or they do
  pub capacity_cases : ((most < value f) ⊎ (most < value g) → P (Err 3))
      → (value f ≤ most → value g ≤ most → Apart z (value f) (value g) → P (Err (apart_is z)))
      → (value f ≤ most → value g ≤ most → Together z (value f) (value g) → P (Ok (taken z (value f) (value g))))
      → P (capacity_of z (size_of most f) (size_of most g))
  unfolding capacity_of size_of
  capacity_cases large apart together = by (leb (value f) most) refl (leb (value g) most) refl
    where
      by : (t : Bool) → leb (value f) most ≡ t → (u : Bool) → leb (value g) most ≡ u
          → P (capacity_of z (cond t (Some (value f)) None) (cond u (Some (value g)) None))
      by false a u b = large (inl (leb-false _ _ a))
      by true a false b = large (inr (leb-false _ _ b))
      by true a true b = paired_cases P z (value f) (value g) (apart (leb-true _ _ a) (leb-true _ _ b)) (together (leb-true _ _ a) (leb-true _ _ b))

module _ (z : Sizing) (most : ℕ) (f g : List ℕ) where
  -- and each of these makes it
  pub above_is_3 : (most < value f) ⊎ (most < value g) → capacity_of z (size_of most f) (size_of most g) ≡ Err 3
  above_is_3 o = capacity_cases (λ c. c ≡ Err 3) z most f g (λ p. refl) (λ a b l. absurd (⊎_elim (λ p. omega arith) (λ p. omega arith) o))
      (λ a b l. absurd (⊎_elim (λ p. omega arith) (λ p. omega arith) o))

  pub apart_is_its_number : value f ≤ most → value g ≤ most → Apart z (value f) (value g) → capacity_of z (size_of most f) (size_of most g) ≡ Err (apart_is z)
  apart_is_its_number a b l = capacity_cases (λ c. c ≡ Err (apart_is z)) z most f g (λ o. absurd (⊎_elim (λ p. omega arith) (λ p. omega arith) o))
      (λ p q r. refl) (λ p q r. absurd (not-both z (value f) (value g) r l))

  pub else_is_usable : value f ≤ most → value g ≤ most → Together z (value f) (value g)
      → capacity_of z (size_of most f) (size_of most g) ≡ Ok (taken z (value f) (value g))
  else_is_usable a b l = capacity_cases (λ c. c ≡ Ok (taken z (value f) (value g))) z most f g
      (λ o. absurd (⊎_elim (λ p. omega arith) (λ p. omega arith) o)) (λ p q r. absurd (not-both z (value f) (value g) l r)) (λ p q r. refl)
