-- When a line of a plan drawn by hand is a fault, each number just for its cause: 2 no `P`, 10 wrong number of fields, 11 bad name, 17 name of digits alone,
-- 12 badly written number, in this order, as in a log; then 3, an amount of 0 or above the limit. Document 02, Card 12.
use Rattle.std.specs.Prelude.{Bool, cond, ◌&&◌, List, ◌↔◌, ◌≢◌, ◌≡◌, ℕ, ◌<◌, Ok, Err, Result}
use Rattle.std.proofs.Math.Bool.{true, false}
use Rattle.std.proofs.Math.Logic.{inl, inr}
use Rattle.std.proofs.Common.{⊎_elim, subst, arith, ap}
use Rattle.std.proofs.Math.Path.{refl}
use Rattle.std.proofs.Math.Dec.{leb}
use borrow.Author.Tests.{leb-true, leb-false, le-leb, lt-leb}
use Rattle.model.specs.Limits.{AMOUNT}
use Rattle.model.specs.Text.{bytes}
use Rattle.text_fields.specs.Fields.{fields, field, value}
use Rattle.text_fields.specs.FieldLaws.{not_same}
use Rattle.text_grammar.specs.Grammar.{Check}
use Rattle.text_grammar.specs.declared.Broken.TheVariants as check
use Rattle.text_grammar.specs.Grammar.{checked, fault_of}
use Rattle.text_grammar.specs.FormLaws.{another_letter}
use Rattle.text_grammar.specs.RuleLaws as rule
use Rattle.sheet_kinds.specs.LineKindLaws.{judged_cases}
use Rattle.log_lines.specs.LogLines.{plan_letter, judged, booking, line_as, log_line, plan_line, line_by}
use Rattle.log_lines.specs.BookingLaws.{IsFormed, asking}
use Rattle.log_lines.specs.FaultyLogLines as log
use Rattle.log_lines.proofs.FaultyLogLines as log_laws
use Rattle.log_lines.specs.declared.Booking.{Booking}
use Rattle.log_lines.specs.FaultyPlanLines.{AmountTold, Tells}
use Rattle.log_lines.specs.FaultyPlanLines.{plan_form, WrongAmount, wrong_count, no_letter, PlanFault, bad_number, wrong_amount, bare_name, bad_name}

module _ (l : List ℕ) where
  booking-tells : IsFormed plan_letter (fields l) → Tells l (booking true (fields l))
  unfolding booking
  booking-tells g = by (leb 1 (value (field (fields l) 3))) refl (leb (value (field (fields l) 3)) AMOUNT) refl
    where
      by : (t : Bool) → leb 1 (value (field (fields l) 3)) ≡ t → (u : Bool) → leb (value (field (fields l) 3)) AMOUNT ≡ u
          → Tells l (cond (t && u) (asking true l) (Err 3))
      by true h true k = (record { formed = g; some = leb-true _ _ h; limited = leb-true _ _ k }, refl)
      by true h false k = wrong_amount (record { formed = g; amount = inr (leb-false _ _ k) })
      by false h u k = wrong_amount (record { formed = g; amount = inl (leb-false _ _ h) })

  -- by the rule that is broken
  fault_tells : (c : Check) → rule.Tells plan_form (fields l) c → c ≢ Ok tt → PlanFault l (fault_of c)
  unfolding fault_of
  fault_tells (Ok tt) h d = absurd (d refl)
  fault_tells (Err check.Letter) h d = no_letter h
  fault_tells (Err check.Count) h d = wrong_count h
  fault_tells (Err check.Name) h d = bad_name h
  fault_tells (Err check.Digits) h d = bare_name h
  fault_tells (Err check.Number) h d = bad_number h

  pub a_plan_line_tells : Tells l (plan_line l)
  unfolding plan_line line_as
  a_plan_line_tells = judged_cases (Tells l) (checked plan_form (fields l)) _ booking-tells
      (fault_tells (checked plan_form (fields l)) (rule.a_finding_tells_its_rule plan_form (fields l)))

  -- ---- a cause makes its fault

  pub amount : WrongAmount l → plan_line l ≡ Err 3
  unfolding plan_line line_as judged fault_of booking
  amount h = rw h.formed (⊎_elim few many h.amount)
    where
      few : value (field (fields l) 3) < 1 → booking true (fields l) ≡ Err 3
      few z = rw (lt-leb 1 (value (field (fields l) 3)) z)

      many : AMOUNT < value (field (fields l) 3) → booking true (fields l) ≡ Err 3
      many z = rw (le-leb 1 (value (field (fields l) 3)) (omega arith), lt-leb (value (field (fields l) 3)) AMOUNT z)

  fault_of_lem : (n : ℕ) → PlanFault l n → plan_line l ≡ Err n
  unfolding judged fault_of plan_line line_as
  fault_of_lem n (no_letter h) = rw (another_letter plan_form (fields l) (not_same (field (fields l) 0) (bytes "P") h))
  fault_of_lem n (wrong_count h) = rw (rule.a_wrong_count_is_found plan_form (fields l) h)
  fault_of_lem n (bad_name h) = rw (rule.a_bad_name_is_found plan_form (fields l) h)
  fault_of_lem n (bare_name h) = rw (rule.a_bare_name_is_found plan_form (fields l) h)
  fault_of_lem n (bad_number h) = rw (rule.a_bad_number_is_found plan_form (fields l) h)
  fault_of_lem n (wrong_amount h) = amount h

  -- each number just for its cause
  pub a_plan_line_is_a_fault_just_for_its_cause : (n : ℕ) → (plan_line l ≡ Err n) ↔ PlanFault l n
  a_plan_line_is_a_fault_just_for_its_cause n = (λ e. subst (Tells l) e a_plan_line_tells, fault_of_lem n)

abbrev amount_of : Result Booking ℕ → ℕ
amount_of (Ok b) = b.amount
amount_of (Err n) = 0

pub a_line_tells_its_amount : (plan : Bool) (l : List ℕ) → AmountTold (line_by plan l)
a_line_tells_its_amount true l = by (plan_line l) (a_plan_line_tells l)
  where
    by : (w : Result Booking ℕ) → Tells l w → AmountTold w
    by (Ok b) (k, q) = let amount : b.amount ≡ value (field (fields l) 3) = ap amount_of q in (omega (arith, k.some), omega (arith, k.limited))
    by (Err n) h = tt
a_line_tells_its_amount false l = by (log_line l) (log_laws.a-line-tells l)
  where
    by : (w : Result Booking ℕ) → log.Tells l w → AmountTold w
    by (Ok b) (k, q) = let amount : b.amount ≡ value (field (fields l) 3) = ap amount_of q in (omega (arith, k.some), omega (arith, k.limited))
    by (Err n) h = tt
