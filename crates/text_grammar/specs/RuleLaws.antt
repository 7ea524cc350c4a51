-- The finding of a line held against a form tells which rule is broken, and a broken rule its finding: rule by rule, in their order.
use Rattle.std.specs.Prelude.{Bool, cond, ◌&&◌, List, [], ◌∷◌, ◌≢◌, ◌≡◌, ℕ, ◌+◌, ◌-◌, ◌≤◌, ◌<◌, length, take, Ok, Err}
use Rattle.std.proofs.Math.Bool.{true, false, false≢true}
use Rattle.std.proofs.Math.Logic.{inl, inr}
use Rattle.std.proofs.Common.{⊎_elim, sym, ◌∙◌, arith, get_or-take, get_or-drop}
use Rattle.std.proofs.Math.Path.{refl}
use Rattle.std.proofs.Math.Dec.{leb}
use Rattle.std.proofs.Math.Seq.{slice, length-slice}
use borrow.Author.Tests.{leb-true, leb-false, not-true, not-false}
use Rattle.text_fields.specs.Fields.{same, field, all, digits_alone, is_name, is_number}
use Rattle.text_fields.specs.FieldLaws.{same_are_equal, equal_are_same, each_passes, some_one_fails}
use Rattle.text_grammar.specs.Grammar.{Check, is_lettered, checked_fields, checked, WrongCount, RightCount, BadName, BareName, BadNumber}
use Rattle.text_grammar.specs.declared.Form.{Form}
use Rattle.text_grammar.specs.declared.Broken.TheVariants.{Letter, Count, Name, Digits, Number}

-- ---- the fields from one number on, before another

module _ (p : List ℕ → Bool) (from to : ℕ) (fs : List (List ℕ)) (within : to ≤ length fs) where
  field_of_part : (i : ℕ) → i < to - from → field (slice from to fs) i ≡ field fs (from + i)
  field_of_part i l = get_or-drop from (take to fs) i [] ∙ get_or-take to fs (from + i) [] (omega arith)

  -- all pass, and so does each
  each : all p (slice from to fs) ≡ true → (k : ℕ) → from ≤ k → k < to → p (field fs k) ≡ true
  each e k l m =
      let place : from + (k - from) ≡ k = omega arith in
      let h = each_passes p (slice from to fs) [] e (k - from) (omega (arith, length-slice from to fs within)) in
      rw (field_of_part (k - from) (omega arith), place) at h

  -- or some one fails
  some : all p (slice from to fs) ≡ false → (k : ℕ) × (from ≤ k) × (k < to) × (p (field fs k) ≡ false)
  some e =
      let h = some_one_fails p (slice from to fs) [] e in
      let l : h.0 < to - from = omega (arith, h.1, length-slice from to fs within) in
      (from + h.0, omega arith, omega arith, rw (field_of_part h.0 l) at h.2)

-- ---- the line

-- a line that is formed keeps every rule
pub record Kept (form : Form) (fs : List (List ℕ)) : Type 0 where
  pub counted : RightCount form fs
  pub names_are_names : (k : ℕ) → 1 ≤ k → k ≤ form.names → is_name (field fs k) ≡ true
  pub none_is_bare : (k : ℕ) → 1 ≤ k → k ≤ form.names → digits_alone (field fs k) ≡ false
  pub numbers_are_numbers : (k : ℕ) → form.names < k → k < length fs → is_number (field fs k) ≡ true

module _ (form : Form) where
  -- the rule that a finding tells
  abbrev pub Tells : List (List ℕ) → Check → Type 0
  Tells fs (Ok u) = Kept form fs
  Tells fs (Err Letter) = field fs 0 ≢ form.letter ∷ []
  Tells fs (Err Count) = WrongCount form fs
  Tells fs (Err Name) = BadName form fs
  Tells fs (Err Digits) = BareName form fs
  Tells fs (Err Number) = BadNumber form fs

  -- the fields after the letter
  module _ (fs : List (List ℕ)) (r : RightCount form fs) where
    abbrev end : ℕ
    end = 1 + form.names

    within : end ≤ length fs
    within = omega (arith, r.enough)

    names : all is_name (slice 1 end fs) ≡ true → (k : ℕ) → 1 ≤ k → k ≤ form.names → is_name (field fs k) ≡ true
    names e k l m = each is_name 1 end fs within e k l (omega arith)

    lettered : all is_lettered (slice 1 end fs) ≡ true → (k : ℕ) → 1 ≤ k → k ≤ form.names → digits_alone (field fs k) ≡ false
    lettered e k l m = not-true _ (each is_lettered 1 end fs within e k l (omega arith))

    fields-tell : Tells fs (checked_fields form.names fs)
    unfolding checked_fields
    fields-tell = by (all is_name (slice 1 end fs)) refl (all is_lettered (slice 1 end fs)) refl (all is_number (slice end (length fs) fs)) refl
      where
        by : (t : Bool) → all is_name (slice 1 end fs) ≡ t → (u : Bool) → all is_lettered (slice 1 end fs) ≡ u
            → (v : Bool) → all is_number (slice end (length fs) fs) ≡ v → Tells fs (cond t (cond u (cond v (Ok tt) (Err Number)) (Err Digits)) (Err Name))
        by false a u b v c =
            let h = some is_name 1 end fs within a in
            record { counted = r; at = h.0; after_the_letter = h.1; among_the_names = omega arith; bad = h.3 }
        by true a false b v c =
            let h = some is_lettered 1 end fs within b in
            record { counted = r; names_are_names = names a; at = h.0; after_the_letter = h.1; among_the_names = omega arith; bare = not-false _ h.3 }
        by true a true b false c =
            let h = some is_number end (length fs) fs (omega arith) c in
            record {
              counted = r;
              names_are_names = names a;
              none_is_bare = lettered b;
              at = h.0;
              after_the_names = omega arith;
              within = h.2;
              bad = h.3;
            }
        by true a true b true c = record {
          counted = r;
          names_are_names = names a;
          none_is_bare = lettered b;
          numbers_are_numbers = λ k l m. each is_number end (length fs) fs (omega arith) c k (omega arith) m;
        }

  -- what a line is found to be tells the rule that it breaks
  pub a_finding_tells_its_rule : (fs : List (List ℕ)) → Tells fs (checked form fs)
  unfolding checked
  a_finding_tells_its_rule fs =
      by (same (field fs 0) (form.letter ∷ [])) refl (leb (1 + form.names + form.least) (length fs)) refl
      (leb (length fs) (1 + form.names + form.most)) refl
    where
      by : (t : Bool) → same (field fs 0) (form.letter ∷ []) ≡ t → (u : Bool) → leb (1 + form.names + form.least) (length fs) ≡ u
          → (v : Bool) → leb (length fs) (1 + form.names + form.most) ≡ v
          → Tells fs (cond t (cond (u && v) (checked_fields form.names fs) (Err Count)) (Err Letter))
      by true a true b true c =
          fields-tell fs (record { letter = same_are_equal _ _ a; enough = leb-true _ _ b; no_more = leb-true _ _ c })
      by true a true b false c = record { letter = same_are_equal _ _ a; count = inr (leb-false _ _ c) }
      by true a false b v c = record { letter = same_are_equal _ _ a; count = inl (leb-false _ _ b) }
      by false a u b v c = λ e. false≢true (sym a ∙ rw e (equal_are_same (form.letter ∷ [])))

-- ---- and the rule that is broken is found

module _ (form : Form) (fs : List (List ℕ)) where
  apart : WrongCount form fs → RightCount form fs → ⊥
  apart w r = ⊎_elim (λ l. omega (arith, r.enough)) (λ l. omega (arith, r.no_more)) w.count

  pub a_wrong_count_is_found : WrongCount form fs → checked form fs ≡ Err Count
  a_wrong_count_is_found w = by (checked form fs) (a_finding_tells_its_rule form fs)
    where
      by : (c : Check) → Tells form fs c → c ≡ Err Count
      by (Ok u) h = absurd (apart w h.counted)
      by (Err Letter) h = absurd (h w.letter)
      by (Err Count) h = refl
      by (Err Name) h = absurd (apart w h.counted)
      by (Err Digits) h = absurd (apart w h.counted)
      by (Err Number) h = absurd (apart w h.counted)

  pub a_bad_name_is_found : BadName form fs → checked form fs ≡ Err Name
  a_bad_name_is_found w = by (checked form fs) (a_finding_tells_its_rule form fs)
    where
      no_name : ((k : ℕ) → 1 ≤ k → k ≤ form.names → is_name (field fs k) ≡ true) → ⊥
      no_name names = false≢true (sym w.bad ∙ names w.at w.after_the_letter w.among_the_names)

      by : (c : Check) → Tells form fs c → c ≡ Err Name
      by (Ok u) h = absurd (no_name h.names_are_names)
      by (Err Letter) h = absurd (h w.counted.letter)
      by (Err Count) h = absurd (apart h w.counted)
      by (Err Name) h = refl
      by (Err Digits) h = absurd (no_name h.names_are_names)
      by (Err Number) h = absurd (no_name h.names_are_names)

  pub a_bare_name_is_found : BareName form fs → checked form fs ≡ Err Digits
  a_bare_name_is_found w = by (checked form fs) (a_finding_tells_its_rule form fs)
    where
      some-bare : ((k : ℕ) → 1 ≤ k → k ≤ form.names → digits_alone (field fs k) ≡ false) → ⊥
      some-bare none = false≢true (sym (none w.at w.after_the_letter w.among_the_names) ∙ w.bare)

      by : (c : Check) → Tells form fs c → c ≡ Err Digits
      by (Ok u) h = absurd (some-bare h.none_is_bare)
      by (Err Letter) h = absurd (h w.counted.letter)
      by (Err Count) h = absurd (apart h w.counted)
      by (Err Name) h = absurd (false≢true (sym h.bad ∙ w.names_are_names h.at h.after_the_letter h.among_the_names))
      by (Err Digits) h = refl
      by (Err Number) h = absurd (some-bare h.none_is_bare)

  pub a_bad_number_is_found : BadNumber form fs → checked form fs ≡ Err Number
  a_bad_number_is_found w = by (checked form fs) (a_finding_tells_its_rule form fs)
    where
      by : (c : Check) → Tells form fs c → c ≡ Err Number
      by (Ok u) h = absurd (false≢true (sym w.bad ∙ h.numbers_are_numbers w.at w.after_the_names w.within))
      by (Err Letter) h = absurd (h w.counted.letter)
      by (Err Count) h = absurd (apart h w.counted)
      by (Err Name) h = absurd (false≢true (sym h.bad ∙ w.names_are_names h.at h.after_the_letter h.among_the_names))
      by (Err Digits) h = absurd (false≢true (sym (w.none_is_bare h.at h.after_the_letter h.among_the_names) ∙ h.bare))
      by (Err Number) h = refl

  -- a line that is formed keeps every rule
  pub a_formed_line_keeps_the_rules : checked form fs ≡ Ok tt → Kept form fs
  a_formed_line_keeps_the_rules e = rw e at (a_finding_tells_its_rule form fs)
