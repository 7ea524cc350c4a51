-- When a line is a fault, each number just for its cause: 2 no known letter, 10 wrong number of fields, 11 bad name, 17 name of digits alone, 12 badly
-- written number, in this order; then 3, a link of which a number is above the limit; then 13, a link whose reserve is above its size, or, on a range sheet,
-- 19, a link whose low size is above its high one. Document 02, Cards 1, 5, 7, 9 and 11.
-- By the first field: the letter chooses the form. A heading below line 1 has no known letter.
use Rattle.std.specs.Prelude.{Bool, cond, List, [], ◌∷◌, ◌⊎◌, ◌↔◌, ◌≢◌, ◌≡◌, ℕ, ◌≤◌, ◌<◌, length, Ok, Err, Result}
use Rattle.std.proofs.Math.Bool.{true, false}
use Rattle.std.proofs.lemmas.Bool.{false≢true}
use Rattle.std.proofs.Math.Logic.{inl}
use Rattle.std.proofs.Common.{inr, sym, subst, ◌∙◌}
use Rattle.std.proofs.Math.Path.{refl}
use Rattle.lists.specs.Sums.{contradiction}
use Rattle.model.specs.Text.{bytes}
use Rattle.model.specs.declared.Edition.{Edition}
use Rattle.model.specs.declared.Sizing.{Sizing}
use Rattle.model.specs.declared.Sizing.TheVariants.{Reserved, Low, High}
use Rattle.text_fields.specs.FieldLaws.{not_same}
use Rattle.text_grammar.specs.declared.Form.{Form}
use Rattle.text_grammar.specs.Grammar.{Check}
use Rattle.text_grammar.specs.declared.Broken.TheVariants as check
pub use Rattle.text_grammar.specs.Grammar.{WrongCount, BadName, BareName, BadNumber}
use Rattle.text_grammar.specs.FormLaws.{another_letter}
use Rattle.text_grammar.specs.RuleLaws as rule
use Rattle.sheet_kinds.specs.LineKinds.{same, fields, field, value, checked, fault_of, site_form, plain_form, marked_form, link_form, IsLink, judged}
use Rattle.sheet_kinds.specs.LineKinds.{site_line, size, reserve, low, high, link_of, sized_link, link_line, kind_of, kind}
use Rattle.sheet_kinds.specs.LineKindLaws.{same_are_equal, equal_are_same, judged_cases, link_parts, Apart, apart_is, capacity_cases, above_is_3}
use Rattle.sheet_kinds.specs.LineKindLaws.{apart_is_its_number}
use Rattle.sheet_kinds.specs.declared.Line.{Line}
use Rattle.sheet_kinds.specs.declared.Line.TheVariants.{Site, Link}

-- ---- the causes

-- the first field is no known letter
pub record NoLetter (l : List ℕ) : Type 0 where
  pub no_site : field (fields l) 0 ≢ bytes "N"
  pub no_marked_site : field (fields l) 0 ≢ bytes "T"
  pub no_link : field (fields l) 0 ≢ bytes "L"

-- the letter is that of a site, marked or not, or of a link, and a rule of that form is broken
abbrev pub Broken : Sizing → (Form → List (List ℕ) → Type 0) → List ℕ → Type 0
Broken z Rule l = (Rule plain_form (fields l) ⊎ Rule marked_form (fields l)) ⊎ Rule (link_form z) (fields l)

-- the line is a link, and its size or its reserve (02, Card 11: its low or its high size) is above the limit (01: size above 1,000,000)
pub record TooLarge (ed : Edition) (l : List ℕ) : Type 0 where
  pub link : IsLink ed.sizing (fields l)
  pub above : (ed.size < value (field (fields l) 3)) ⊎ (ed.size < value (field (fields l) 4))

-- the line is a link, neither number is above the limit, and the reserve is above the size (02, Card 5)
pub record TooMuchHeld (ed : Edition) (l : List ℕ) : Type 0 where
  pub of_a_network : ed.sizing ≡ Reserved
  pub link : IsLink ed.sizing (fields l)
  pub within : size (fields l) ≤ ed.size
  pub reserve-within : reserve (fields l) ≤ ed.size
  pub above : size (fields l) < reserve (fields l)

-- the line is a link of a range sheet, neither number is above the limit, and the low size is above the high one (02, Card 11)
pub record LowAboveHigh (ed : Edition) (l : List ℕ) : Type 0 where
  pub of_ranges : ed.sizing ≢ Reserved
  pub link : IsLink ed.sizing (fields l)
  pub low-within : low (fields l) ≤ ed.size
  pub high-within : high (fields l) ≤ ed.size
  pub above : high (fields l) < low (fields l)

-- why a line by itself is at fault, with its number; what the rules are, `Grammar` tells
pub data LineFault (ed : Edition) (l : List ℕ) : ℕ → Type 0 where
  no_letter : NoLetter l → LineFault ed l 2
  wrong_count : Broken ed.sizing WrongCount l → LineFault ed l 10
  bad_name : Broken ed.sizing BadName l → LineFault ed l 11
  bare_name : Broken ed.sizing BareName l → LineFault ed l 17
  bad_number : Broken ed.sizing BadNumber l → LineFault ed l 12
  too_large : TooLarge ed l → LineFault ed l 3
  too_much_held : TooMuchHeld ed l → LineFault ed l 13
  low-above-high : LowAboveHigh ed l → LineFault ed l 19

module _ (ed : Edition) (l : List ℕ) where
  -- ---- the letter chooses the form

  -- a line that starts with `N` is judged as a site, one that starts with `T` as a marked site, and one that starts with `L` as a link
  pub kind_of_N : field (fields l) 0 ≡ bytes "N" → kind ed l ≡ site_line 78 0 (fields l)
  unfolding kind kind_of same
  kind_of_N e = rw e

  pub kind_of_T : field (fields l) 0 ≡ bytes "T" → kind ed l ≡ site_line 84 1 (fields l)
  unfolding kind kind_of same
  kind_of_T e = rw e

  pub kind_of_L : field (fields l) 0 ≡ bytes "L" → kind ed l ≡ link_line ed (fields l)
  unfolding kind kind_of same
  kind_of_L e = rw e

  -- ---- a fault has its cause

  abbrev Right : Result Line ℕ → Type 0
  Right (Ok (Site a e m)) = Unit {0}
  Right (Ok (Link a e b f size)) = Unit {0}
  Right (Err n) = LineFault ed l n

  -- two numbers that give no capacity
  apart_right : (z : Sizing) → ed.sizing ≡ z → IsLink ed.sizing (fields l) → let a = value (field (fields l) 3) in let b = value (field (fields l) 4) in
      a ≤ ed.size → b ≤ ed.size → Apart z a b → LineFault ed l (apart_is z)
  apart_right Reserved e g a b h = too_much_held (record { of_a_network = e; link = g; within = a; reserve-within = b; above = h })
  apart_right Low e g a b h = low-above-high (record { of_ranges = λ r. contradiction cc; link = g; low-within = a; high-within = b; above = h })
  apart_right High e g a b h = low-above-high (record { of_ranges = λ r. contradiction cc; link = g; low-within = a; high-within = b; above = h })

  sized_right : IsLink ed.sizing (fields l) → Right (sized_link ed (fields l))
  unfolding sized_link
  sized_right g = capacity_cases (λ c. Right (link_of (length (field (fields l) 1)) (length (field (fields l) 2)) c)) ed.sizing ed.size
      (field (fields l) 3) (field (fields l) 4) (λ o. too_large (record { link = g; above = o })) (apart_right ed.sizing refl g) (λ a b h. tt)

  -- by the rule that is broken
  link_right : same (field (fields l) 0) (bytes "L") ≡ true → (c : Check) → rule.Tells (link_form ed.sizing) (fields l) c → c ≢ Ok tt
      → LineFault ed l (fault_of c)
  unfolding fault_of
  link_right e (Ok tt) h d = absurd (d refl)
  link_right e (Err check.Letter) h d = absurd (h (same_are_equal _ _ e))
  link_right e (Err check.Count) h d = wrong_count (inr h)
  link_right e (Err check.Name) h d = bad_name (inr h)
  link_right e (Err check.Digits) h d = bare_name (inr h)
  link_right e (Err check.Number) h d = bad_number (inr h)

  -- a field that is found to be no letter is not that letter
  another : (letter : List ℕ) → same (field (fields l) 0) letter ≡ false → field (fields l) 0 ≢ letter
  another letter e z = false≢true (sym e ∙ rw z (equal_are_same letter))

  site_right : (letter mark : ℕ) → (field (fields l) 0 ≢ letter ∷ [] → NoLetter l)
      → ((Rule : Form → List (List ℕ) → Type 0) → Rule (site_form letter) (fields l) → Broken ed.sizing Rule l) → Right (site_line letter mark (fields l))
  unfolding site_line fault_of
  site_right letter mark none broken = judged_cases Right (checked (site_form letter) (fields l)) _ (λ g. tt)
      (by (checked (site_form letter) (fields l)) (rule.a_finding_tells_its_rule (site_form letter) (fields l)))
    where
      by : (c : Check) → rule.Tells (site_form letter) (fields l) c → c ≢ Ok tt → LineFault ed l (fault_of c)
      by (Ok tt) h d = absurd (d refl)
      by (Err check.Letter) h d = no_letter (none h)
      by (Err check.Count) h d = wrong_count (broken WrongCount h)
      by (Err check.Name) h d = bad_name (broken BadName h)
      by (Err check.Digits) h d = bare_name (broken BareName h)
      by (Err check.Number) h d = bad_number (broken BadNumber h)

  right : Right (kind ed l)
  unfolding kind kind_of link_line
  right = by (same (field (fields l) 0) (bytes "L")) refl (same (field (fields l) 0) (bytes "T")) refl
    where
      by : (u : Bool) → same (field (fields l) 0) (bytes "L") ≡ u → (v : Bool) → same (field (fields l) 0) (bytes "T") ≡ v → let fs = fields l in
          Right (cond u (link_line ed fs) (cond v (site_line 84 1 fs) (site_line 78 0 fs)))
      by true e v f = judged_cases Right (checked (link_form ed.sizing) (fields l)) _ sized_right
          (link_right e (checked (link_form ed.sizing) (fields l)) (rule.a_finding_tells_its_rule (link_form ed.sizing) (fields l)))
      by false e true f = site_right 84 1 (λ d. absurd (d (same_are_equal _ _ f))) (λ Rule h. inl (inr h))
      by false e false f = site_right 78 0
          (λ d. record { no_site = d; no_marked_site = another (bytes "T") f; no_link = another (bytes "L") e })
          (λ Rule h. inl (inl h))

  -- ---- a cause makes its fault

  site_fault : (c : Check) (n : ℕ) → field (fields l) 0 ≡ bytes "N" → checked plain_form (fields l) ≡ c → ((w : Result Line ℕ) → judged c w ≡ Err n)
      → kind ed l ≡ Err n
  unfolding site_line
  site_fault c n e is f = kind_of_N e ∙ rw is (f _)

  marked_fault : (c : Check) (n : ℕ) → field (fields l) 0 ≡ bytes "T" → checked marked_form (fields l) ≡ c → ((w : Result Line ℕ) → judged c w ≡ Err n)
      → kind ed l ≡ Err n
  unfolding site_line
  marked_fault c n e is f = kind_of_T e ∙ rw is (f _)

  link_fault : (c : Check) (n : ℕ) → field (fields l) 0 ≡ bytes "L" → checked (link_form ed.sizing) (fields l) ≡ c → ((w : Result Line ℕ) → judged c w ≡ Err n)
      → kind ed l ≡ Err n
  unfolding link_line
  link_fault c n e is f = kind_of_L e ∙ rw is (f _)

  large : TooLarge ed l → kind ed l ≡ Err 3
  unfolding link_line judged fault_of sized_link
  large h =
      kind_of_L (link_parts ed.sizing (fields l) h.link).letter
      ∙ rw (h.link, above_is_3 ed.sizing ed.size (field (fields l) 3) (field (fields l) 4) h.above)

  apart : IsLink ed.sizing (fields l) → let a = value (field (fields l) 3) in let b = value (field (fields l) 4) in
      a ≤ ed.size → b ≤ ed.size → Apart ed.sizing a b → kind ed l ≡ Err (apart_is ed.sizing)
  unfolding link_line judged fault_of sized_link
  apart g a b h =
      kind_of_L (link_parts ed.sizing (fields l) g).letter
      ∙ rw (g, apart_is_its_number ed.sizing ed.size (field (fields l) 3) (field (fields l) 4) a b h)

  held : TooMuchHeld ed l → kind ed l ≡ Err 13
  held h =
      let a = size (fields l) in
      let b = reserve (fields l) in
      subst (λ z. Apart z a b → kind ed l ≡ Err (apart_is z)) h.of_a_network (apart h.link h.within h.reserve-within) h.above

  swapped : LowAboveHigh ed l → kind ed l ≡ Err 19
  swapped h = by ed.sizing refl (apart h.link h.low-within h.high-within)
    where
      by : (z : Sizing) → ed.sizing ≡ z → (Apart z (low (fields l)) (high (fields l)) → kind ed l ≡ Err (apart_is z)) → kind ed l ≡ Err 19
      by Reserved e k = absurd (h.of_ranges e)
      by Low e k = k h.above
      by High e k = k h.above

  fault_of_lem : (n : ℕ) → LineFault ed l n → kind ed l ≡ Err n
  unfolding judged fault_of kind kind_of site_line
  fault_of_lem n (no_letter h) =
      rw (
        not_same (field (fields l) 0) (bytes "L") h.no_link,
        not_same (field (fields l) 0) (bytes "T") h.no_marked_site,
        another_letter plain_form (fields l) (not_same (field (fields l) 0) (bytes "N") h.no_site),
      )
  fault_of_lem n (wrong_count (inl (inl h))) = site_fault (Err check.Count) 10 h.letter (rule.a_wrong_count_is_found plain_form (fields l) h) (λ w. refl)
  fault_of_lem n (wrong_count (inl (inr h))) = marked_fault (Err check.Count) 10 h.letter (rule.a_wrong_count_is_found marked_form (fields l) h) (λ w. refl)
  fault_of_lem n (wrong_count (inr h)) = link_fault (Err check.Count) 10 h.letter (rule.a_wrong_count_is_found (link_form ed.sizing) (fields l) h) (λ w. refl)
  fault_of_lem n (bad_name (inl (inl h))) = site_fault (Err check.Name) 11 h.counted.letter (rule.a_bad_name_is_found plain_form (fields l) h) (λ w. refl)
  fault_of_lem n (bad_name (inl (inr h))) = marked_fault (Err check.Name) 11 h.counted.letter (rule.a_bad_name_is_found marked_form (fields l) h) (λ w. refl)
  fault_of_lem n (bad_name (inr h)) = link_fault (Err check.Name) 11 h.counted.letter (rule.a_bad_name_is_found (link_form ed.sizing) (fields l) h) (λ w. refl)
  fault_of_lem n (bare_name (inl (inl h))) = site_fault (Err check.Digits) 17 h.counted.letter (rule.a_bare_name_is_found plain_form (fields l) h) (λ w. refl)
  fault_of_lem n (bare_name (inl (inr h))) = marked_fault (Err check.Digits) 17 h.counted.letter (rule.a_bare_name_is_found marked_form (fields l) h) (λ w. refl)
  fault_of_lem n (bare_name (inr h)) = link_fault (Err check.Digits) 17 h.counted.letter (rule.a_bare_name_is_found (link_form ed.sizing) (fields l) h) (λ w. refl)
  fault_of_lem n (bad_number (inl (inl h))) = site_fault (Err check.Number) 12 h.counted.letter (rule.a_bad_number_is_found plain_form (fields l) h) (λ w. refl)
  fault_of_lem n (bad_number (inl (inr h))) = marked_fault (Err check.Number) 12 h.counted.letter (rule.a_bad_number_is_found marked_form (fields l) h) (λ w. refl)
  fault_of_lem n (bad_number (inr h)) = link_fault (Err check.Number) 12 h.counted.letter (rule.a_bad_number_is_found (link_form ed.sizing) (fields l) h)
      (λ w. refl)
  fault_of_lem n (too_large h) = large h
  fault_of_lem n (too_much_held h) = held h
  fault_of_lem n (low-above-high h) = swapped h

  -- each number just for its cause
  pub a_line_is_a_fault_just_for_its_cause : (n : ℕ) → (kind ed l ≡ Err n) ↔ LineFault ed l n
  a_line_is_a_fault_just_for_its_cause n = (λ e. subst Right e right, fault_of_lem n)
