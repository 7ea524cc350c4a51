-- What is told of a range sheet: its own refusals, each number at a line just for its cause, whatever the buffer; and a report lies within the buffer.
-- Document 02, Card 11; 01, the table of causes.
use Rattle.std.specs.Prelude.{◌≡◌, refl, List, ◌↔◌, ◌≢◌, ℕ, ◌≤◌, Ok}
use Rattle.std.proofs.Math.Logic.{inl, inr}
use Rattle.std.proofs.Common.{arith}
use Rattle.std.proofs.Math.ListN.{length}
use Rattle.lists.specs.Sums.{contradiction}
use Rattle.model.specs.Edition.{ranges_low, ranges_high}
use Rattle.model.specs.Limits.{BYTES}
use Rattle.sheet.specs.Answers.{SheetNumber}
use Rattle.sheet.proofs.Answers.{refusals_have_sheet_numbers, a_line_at_fault_is_on_the_sheet}
use Rattle.sheet.specs.Causes.{Refusal}
use Rattle.sheet.specs.Sheet.{Read, refused, accepted, read_as}
use Rattle.sheet.specs.SheetTheorem.{a_sheet_is_refused_for_its_cause}
use Rattle.report.specs.Span.{span_report}
use Rattle.planner.specs.Answers.{delivered-within}
use Rattle.planner.specs.Outcome.{number, line_of}
use Rattle.planner.specs.Told.{zero_or_nine}
use Rattle.spans.specs.Outcome.{network_of, span_read, spanned}

module _ (s b : List ℕ) where
  -- a report's length is within the buffer after
  pub a_span_is_within_the_buffer : (n : ℕ) → (spanned s b).outcome ≡ Ok n → n ≤ length (spanned s b).buffer
  unfolding spanned span_read
  a_span_is_within_the_buffer n e = by (read_as ranges_low s) e
    where
      by : (r : Read) → (span_read s b r (read_as ranges_high s)).outcome ≡ Ok n → n ≤ length (span_read s b r (read_as ranges_high s)).buffer
      by (refused k l) q = contradiction cc
      by (accepted low) q = delivered-within (span_report s low (network_of (read_as ranges_high s))) b n q

  -- any number but 0 and 9 is told at a line just for its cause
  pub a_number_of_a_range_sheet_is_told_just_for_its_cause : (k l : ℕ) → 1 ≤ k → k ≢ 9
      → ((number (spanned s b).outcome ≡ k) × (line_of (spanned s b).outcome ≡ l)) ↔ Refusal ranges_low s k l
  unfolding spanned span_read
  a_number_of_a_range_sheet_is_told_just_for_its_cause k l some other =
      let law = a_sheet_is_refused_for_its_cause ranges_low s k l in (λ t. law.0 (by (read_as ranges_low s) t), λ c. rw (law.1 c) (refl, refl))
    where
      by : (r : Read) → (number (span_read s b r (read_as ranges_high s)).outcome ≡ k) × (line_of (span_read s b r (read_as ranges_high s)).outcome ≡ l)
          → r ≡ refused k l
      by (refused n m) t = let e = t.0 in let f = t.1 in cc
      by (accepted low) t = elim (zero_or_nine (span_report s low (network_of (read_as ranges_high s))) b) [
        | inl e ↦ absurd (omega (arith, t.0, e))
        | inr e ↦ absurd (other (omega (arith, t.0, e)))
      ]

  -- the numbers are those of the table, 19 among them and 13 not, and the line is within the limit of bytes
  pub a_range_sheet_is_refused_with_a_sheet_number : (k l : ℕ) → Refusal ranges_low s k l → SheetNumber ranges_low.sizing k × (l ≤ BYTES)
  a_range_sheet_is_refused_with_a_sheet_number k l c = (refusals_have_sheet_numbers ranges_low s c, (a_line_at_fault_is_on_the_sheet ranges_low s c).1)
