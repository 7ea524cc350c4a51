-- How large the numbers are that the two steps tell: a number at most 19, a line of the sheet, a size within the limit, a count of links, and a sum in
-- which each link counts at most twice.
use Rattle.std.specs.Prelude.{List, ℕ, ◌≤◌}
use Rattle.std.proofs.Common.{arith}
use Rattle.model.specs.Limits.{BYTES}
use Rattle.model.specs.Edition.{editions}
use Rattle.sheet.proofs.Editions.{a_line_at_fault_is_within_the_limit}
use Rattle.sheet.specs.Sheet.{edition_of}
use Rattle.sheet.proofs.Answers.{refusals_have_sheet_numbers}
use Rattle.sides.specs.Outcome.{first_shown, answered}
use Rattle.sides.specs.Causes.{FirstCause, of_the_sheet, no_such_link, Cause, of_the_first_step, number_too_large, list_too_short}
use Rattle.sides.proofs.Told as told_laws
use Rattle.sides.specs.Told as told
use Rattle.sides.specs.Small.{FirstSmall, SideSmall, few, first_small, sum_small}

module _ (s name name' : List ℕ) where
  a_cause_is_small : {k line : ℕ} → FirstCause editions s name name' k line → (k ≤ 19) × (line ≤ BYTES)
  a_cause_is_small (of_the_sheet c) =
      (omega (arith, (refusals_have_sheet_numbers (edition_of editions s) s c).known), a_line_at_fault_is_within_the_limit s c)
  a_cause_is_small (no_such_link e none) = (omega arith, omega arith)

  pub the_first_step_tells_small_numbers : FirstSmall (first_shown editions s name name')
  the_first_step_tells_small_numbers = by (told_laws.the_first_size_is_told_or_its_cause editions s name name')
    where
      by : told.FirstTold editions s name name' → FirstSmall (first_shown editions s name name')
      by (told.nothing-shown c r) = let small = a_cause_is_small c in
          record { number_small = omega (arith, r.number-told); line_small = omega (arith, r.line-told); size_small = omega (arith, r.size-told) }
      by (told.size-shown A r) = record {
        number_small = omega (arith, r.number-told);
        line_small = omega (arith, r.line-told);
        size_small = omega (arith, r.size-told, first_small A);
      }

module _ (s name name' : List ℕ) (k : ℕ) (l : List ℕ) where
  a_refusal_is_small : {n line : ℕ} → Cause editions s name name' k l n line → (n ≤ 19) × (line ≤ BYTES)
  a_refusal_is_small (of_the_first_step c) = a_cause_is_small s name name' c
  a_refusal_is_small (number_too_large A h) = (omega arith, omega arith)
  a_refusal_is_small (list_too_short A h short) = (omega arith, omega arith)

  pub the_second_step_tells_small_numbers : SideSmall (answered editions s name name' k l).outcome
  the_second_step_tells_small_numbers = by (told_laws.the_answer_is_told_or_its_cause editions s name name' k l)
    where
      by : told.SideTold editions s name name' k l → SideSmall (answered editions s name name' k l).outcome
      by (told.for_its_cause c r) = let small = a_refusal_is_small c in
          record {
            number_small = omega (arith, r.number-told);
            line_small = omega (arith, r.line-told);
            count_small = omega (arith, r.count-told);
            sum_small = omega (arith, r.sum_told);
          }
      by (told.is-answered A h long r) = record {
        number_small = omega (arith, r.number-told);
        line_small = omega (arith, r.line-told);
        count_small = omega (arith, r.count-told, few A);
        sum_small = omega (arith, r.sum_told, sum_small A k);
      }
