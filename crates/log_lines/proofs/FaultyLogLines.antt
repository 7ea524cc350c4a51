-- When a line of a log is a fault, each number just for its cause: 2 neither `+` nor `-`, 10 wrong number of fields, 11 bad name, 17 name of digits alone,
-- 12 badly written number, in this order; then 3, an amount of 0 or above the limit. Document 02, Cards 6 and 9. By the first field: the sign chooses the
-- form.
use Rattle.std.specs.Prelude.{Bool, cond, ◌&&◌, List, [], ◌∷◌, ◌↔◌, ◌≢◌, ◌≡◌, ℕ, ◌<◌, Ok, Err, Result}
use Rattle.std.proofs.Math.Bool.{true, false, false≢true}
use Rattle.std.proofs.Math.Logic.{inl, inr}
use Rattle.std.proofs.Common.{⊎_elim, sym, subst, ◌∙◌, arith}
use Rattle.std.proofs.Math.Path.{refl}
use Rattle.std.proofs.Math.Dec.{leb}
use borrow.Author.Tests.{leb-true, leb-false, le-leb, lt-leb}
use Rattle.model.specs.Limits.{AMOUNT}
use Rattle.model.specs.Text.{bytes}
use Rattle.text_fields.specs.Fields.{same, fields, field, value}
use Rattle.text_fields.specs.FieldLaws.{same_are_equal, equal_are_same, not_same}
use Rattle.text_grammar.specs.Grammar.{Check}
use Rattle.text_grammar.specs.declared.Broken.TheVariants as check
use Rattle.text_grammar.specs.Grammar.{checked, fault_of}
use Rattle.text_grammar.specs.FormLaws.{another_letter}
use Rattle.text_grammar.specs.RuleLaws as rule
use Rattle.sheet_kinds.specs.LineKindLaws.{judged_cases}
use Rattle.log_lines.specs.LogLines.{sign, log_form, judged, booking, line_as, log_line}
use Rattle.log_lines.specs.BookingLaws.{IsFormed, formed_keeps, asking}
use Rattle.log_lines.proofs.BookingLaws.{letter_tells}
use Rattle.log_lines.specs.declared.Booking.{Booking}
use Rattle.log_lines.specs.FaultyLogLines.{WrongAmount, wrong_count, bad_number, wrong_amount, LineFault, bare_name, bad_name, no_sign, Tells}

module _ (l : List ℕ) where
  booking-tells : (opens : Bool) → IsFormed (sign opens) (fields l) → Tells l (booking opens (fields l))
  unfolding booking
  booking-tells opens g = by (leb 1 (value (field (fields l) 3))) refl (leb (value (field (fields l) 3)) AMOUNT) refl
    where
      by : (t : Bool) → leb 1 (value (field (fields l) 3)) ≡ t → (u : Bool) → leb (value (field (fields l) 3)) AMOUNT ≡ u
          → Tells l (cond (t && u) (asking opens l) (Err 3))
      by true h true k = (record { formed = g; some = leb-true _ _ h; limited = leb-true _ _ k }, refl)
      by true h false k = wrong_amount (record { opens = opens; formed = g; amount = inr (leb-false _ _ k) })
      by false h u k = wrong_amount (record { opens = opens; formed = g; amount = inl (leb-false _ _ h) })

  -- by the rule that is broken
  fault_tells : (opens : Bool) → same (field (fields l) 0) (bytes "+") ≡ opens → (c : Check) → rule.Tells (log_form opens) (fields l) c → c ≢ Ok tt
      → LineFault l (fault_of c)
  unfolding fault_of
  fault_tells opens e (Ok tt) h d = absurd (d refl)
  fault_tells true e (Err check.Letter) h d = absurd (h (same_are_equal _ _ e))
  fault_tells false e (Err check.Letter) h d = no_sign (record { no_opening = λ z. false≢true (sym e ∙ rw z (equal_are_same (bytes "+"))); no_giving_up = h })
  fault_tells opens e (Err check.Count) h d = wrong_count (record { opens = opens; rule = h })
  fault_tells opens e (Err check.Name) h d = bad_name (record { opens = opens; rule = h })
  fault_tells opens e (Err check.Digits) h d = bare_name (record { opens = opens; rule = h })
  fault_tells opens e (Err check.Number) h d = bad_number (record { opens = opens; rule = h })

  pub a-line-tells : Tells l (log_line l)
  unfolding log_line line_as
  a-line-tells = by (same (field (fields l) 0) (bytes "+")) refl
    where
      by : (opens : Bool) → same (field (fields l) 0) (bytes "+") ≡ opens → Tells l (judged (checked (log_form opens) (fields l)) (booking opens (fields l)))
      by opens e = judged_cases (Tells l) (checked (log_form opens) (fields l)) _ (booking-tells opens)
          (fault_tells opens e (checked (log_form opens) (fields l)) (rule.a_finding_tells_its_rule (log_form opens) (fields l)))

  -- ---- a cause makes its fault

  broken : (opens : Bool) (c : Check) (n : ℕ) → field (fields l) 0 ≡ (log_form opens).letter ∷ [] → checked (log_form opens) (fields l) ≡ c
      → ((w : Result Booking ℕ) → judged c w ≡ Err n) → log_line l ≡ Err n
  unfolding line_as
  broken opens c n e is f = letter_tells opens l e ∙ rw is (f _)

  amount : (h : WrongAmount l) → log_line l ≡ Err 3
  unfolding line_as judged fault_of booking
  amount h = letter_tells h.opens l (formed_keeps (sign h.opens) (fields l) h.formed).counted.letter ∙ rw h.formed (⊎_elim few many h.amount)
    where
      few : value (field (fields l) 3) < 1 → booking h.opens (fields l) ≡ Err 3
      few z = rw (lt-leb 1 (value (field (fields l) 3)) z)

      many : AMOUNT < value (field (fields l) 3) → booking h.opens (fields l) ≡ Err 3
      many z = rw (le-leb 1 (value (field (fields l) 3)) (omega arith), lt-leb (value (field (fields l) 3)) AMOUNT z)

  fault_of_lem : (n : ℕ) → LineFault l n → log_line l ≡ Err n
  unfolding judged fault_of log_line line_as
  fault_of_lem n (no_sign h) =
      rw (
        not_same (field (fields l) 0) (bytes "+") h.no_opening,
        another_letter (log_form false) (fields l) (not_same (field (fields l) 0) (bytes "-") h.no_giving_up),
      )
  fault_of_lem n (wrong_count h) =
      broken h.opens (Err check.Count) 10 h.rule.letter (rule.a_wrong_count_is_found (log_form h.opens) (fields l) h.rule) (λ w. refl)
  fault_of_lem n (bad_name h) =
      broken h.opens (Err check.Name) 11 h.rule.counted.letter (rule.a_bad_name_is_found (log_form h.opens) (fields l) h.rule) (λ w. refl)
  fault_of_lem n (bare_name h) =
      broken h.opens (Err check.Digits) 17 h.rule.counted.letter (rule.a_bare_name_is_found (log_form h.opens) (fields l) h.rule) (λ w. refl)
  fault_of_lem n (bad_number h) =
      broken h.opens (Err check.Number) 12 h.rule.counted.letter (rule.a_bad_number_is_found (log_form h.opens) (fields l) h.rule) (λ w. refl)
  fault_of_lem n (wrong_amount h) = amount h

  -- each number just for its cause
  pub a_log_line_is_a_fault_just_for_its_cause : (n : ℕ) → (log_line l ≡ Err n) ↔ LineFault l n
  a_log_line_is_a_fault_just_for_its_cause n = (λ e. subst (Tells l) e a-line-tells, fault_of_lem n)
