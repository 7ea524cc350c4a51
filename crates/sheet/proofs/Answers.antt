-- What reading a sheet answers, in both directions: a number at a line just for its cause, 0 just without one. Numbers are 1 to 8, 10 to 13, 17 or 19, and a
-- line at fault is one of the sheet. Document 01, "The network sheet" (the table's columns "No." and "Returned"); 02, Cards 1, 5, 9 and 11. By the causes,
-- one by one.
use Rattle.std.specs.Prelude.{Ok, Err, List, ◌↔◌, ◌≢◌, ◌≡◌, ℕ, suc, ◌≤◌, length}
use Rattle.std.proofs.Common.{inl, inr, lt-ltb}
use Rattle.std.proofs.Math.Path.{refl}
use native.Mathlib.Omega.{arith}
use Rattle.model.specs.declared.Edition.{Edition}
use Rattle.model.specs.declared.Refusal as answer
use Rattle.model.specs.declared.Sizing.{Sizing}
use Rattle.text_lines.specs.Lines.{has_line}
use Rattle.text_lines.specs.LineLaws.{after-line-is-later}
use Rattle.sheet.specs.Sheet.{Network, Read, refused, accepted, read_as}
use Rattle.sheet.specs.Reading.{lists, reading}
use Rattle.sheet.specs.Causes.{Cause, unended, no_heading, no_letter, wrong_count, bad_name, bare_name, bad_number}
use Rattle.sheet.specs.Causes.{too_large, too_much_held, low-above-high, too_many, given, not-given, already_joined}
use Rattle.sheet.specs.Causes.{Reached, start, next, Refusal, by_length, by_line, by_whole}
use Rattle.sheet.specs.SheetTheorem.{a_sheet_is_refused_for_its_cause}
use Rattle.sheet.specs.Answers.{SheetNumber, Tells, line, number}

up_to_12 : {z : Sizing} {n : ℕ} → 1 ≤ n → n ≤ 12 → n ≢ 9 → SheetNumber z n
up_to_12 some few d = record {
  some = some;
  known = omega arith;
  not_nine = d;
  not_of_a_log = λ l. absurd (omega arith);
  of_a_network = λ e. absurd (omega arith);
  of_ranges = λ e. absurd (omega arith);
}

module _ (ed : Edition) (s : List ℕ) where
  -- each line above takes at least a byte
  lines_are_bytes : {k at : ℕ} {net : Network} → Reached ed s k at net → k ≤ suc at
  unfolding has_line
  lines_are_bytes start = omega arith
  lines_are_bytes (next {at = at} r h e) = omega (arith, lines_are_bytes r, after-line-is-later s at (lt-ltb at (length s) h))

  cause_has_a_sheet_number : {net : Network} {k at n : ℕ} → Cause ed s net k at n → SheetNumber ed.sizing n
  cause_has_a_sheet_number (unended h) = up_to_12 (omega arith) (omega arith) (λ e. omega arith)
  cause_has_a_sheet_number (no_heading h e d) = up_to_12 (omega arith) (omega arith) (λ e. omega arith)
  cause_has_a_sheet_number (no_letter h d is) = up_to_12 (omega arith) (omega arith) (λ e. omega arith)
  cause_has_a_sheet_number (wrong_count h d is) = up_to_12 (omega arith) (omega arith) (λ e. omega arith)
  cause_has_a_sheet_number (bad_name h d is) = up_to_12 (omega arith) (omega arith) (λ e. omega arith)
  cause_has_a_sheet_number (bare_name h d is) = record {
    some = omega arith;
    known = omega arith;
    not_nine = λ e. omega arith;
    not_of_a_log = λ l. inl refl;
    of_a_network = λ e. absurd (omega arith);
    of_ranges = λ e. absurd (omega arith);
  }
  cause_has_a_sheet_number (bad_number h d is) = up_to_12 (omega arith) (omega arith) (λ e. omega arith)
  cause_has_a_sheet_number (too_large h d is) = up_to_12 (omega arith) (omega arith) (λ e. omega arith)
  cause_has_a_sheet_number (too_much_held h d is) = record {
    some = omega arith;
    known = omega arith;
    not_nine = λ e. omega arith;
    not_of_a_log = λ l. absurd (omega arith);
    of_a_network = λ e. is.of_a_network;
    of_ranges = λ e. absurd (omega arith);
  }
  cause_has_a_sheet_number (low-above-high h d is) = record {
    some = omega arith;
    known = omega arith;
    not_nine = λ e. omega arith;
    not_of_a_log = λ l. inr refl;
    of_a_network = λ e. absurd (omega arith);
    of_ranges = λ e. is.of_ranges;
  }
  cause_has_a_sheet_number (too_many h d is l) = up_to_12 (omega arith) (omega arith) (λ e. omega arith)
  cause_has_a_sheet_number (given h d is l v f) = up_to_12 (omega arith) (omega arith) (λ e. omega arith)
  cause_has_a_sheet_number (not-given h d is o) = up_to_12 (omega arith) (omega arith) (λ e. omega arith)
  cause_has_a_sheet_number (already_joined h d is v w p q j) = up_to_12 (omega arith) (omega arith) (λ e. omega arith)

  pub refusals_have_sheet_numbers : {n k : ℕ} → Refusal ed s n k → SheetNumber ed.sizing n
  refusals_have_sheet_numbers (by_length o) = up_to_12 (omega arith) (omega arith) (λ e. omega arith)
  refusals_have_sheet_numbers (by_line some few r h c) = cause_has_a_sheet_number c
  refusals_have_sheet_numbers (by_whole some few r h o) = up_to_12 (omega arith) (omega arith) (λ e. omega arith)

  -- a line at fault is one of the sheet, which is within the limit; other refusals are at line 0
  pub a_line_at_fault_is_on_the_sheet : {n k : ℕ} → Refusal ed s n k → (k ≤ length s) × (k ≤ ed.bytes)
  a_line_at_fault_is_on_the_sheet (by_length o) = omega arith
  a_line_at_fault_is_on_the_sheet (by_line some few r h c) = omega (arith, lines_are_bytes r)
  a_line_at_fault_is_on_the_sheet (by_whole some few r h o) = omega arith

  -- ---- what is told

  pub a_number_is_told_just_for_its_cause : (n k : ℕ) → 1 ≤ n → Tells (read_as ed s) n k ↔ Refusal ed s n k
  unfolding number line reading
  a_number_is_told_just_for_its_cause n k some =
      let law = a_sheet_is_refused_for_its_cause ed s n k in (λ t. law.0 (by (read_as ed s) t), λ c. rw (law.1 c) (refl, refl))
    where
      by : (r : Read) → Tells r n k → r ≡ refused n k
      by (refused m l) t = let e = t.0 in let f = t.1 in cc
      by (accepted net) t = absurd (omega (arith, t.0))

  pub zero_is_told_just_without_a_cause : (number (reading (read_as ed s)) ≡ 0) ↔ ((n k : ℕ) → ¬ (Refusal ed s n k))
  unfolding number reading
  zero_is_told_just_without_a_cause = (
    λ e n k c. let t = ((a_number_is_told_just_for_its_cause n k (refusals_have_sheet_numbers c).some).1 c).0 in
        absurd (omega (arith, e, t, (refusals_have_sheet_numbers c).some)),
    λ none. by (read_as ed s) refl none,
  )
    where
      by : (r : Read) → read_as ed s ≡ r → ((n k : ℕ) → ¬ (Refusal ed s n k)) → number (reading r) ≡ 0
      by (refused n k) e none = absurd (none n k ((a_sheet_is_refused_for_its_cause ed s n k).0 e))
      by (accepted net) e none = refl

  -- a sheet that is refused is answered with its refusal and no network, any other with its own network
  pub a_refused_sheet_gets_no_network : number (reading (read_as ed s)) ≢ 0 → (r : answer.Refusal) × (reading (read_as ed s) ≡ Err r)
  unfolding number reading
  a_refused_sheet_gets_no_network = by (read_as ed s)
    where
      by : (r : Read) → number (reading r) ≢ 0 → (e : answer.Refusal) × (reading r ≡ Err e)
      by (refused n k) d = (record { number = n; line = k }, refl)
      by (accepted net) d = absurd (d refl)

  pub an_accepted_sheet_gets_its_network : (net : Network) → read_as ed s ≡ accepted net → reading (read_as ed s) ≡ Ok (lists net)
  unfolding reading
  an_accepted_sheet_gets_its_network net e = rw e refl
