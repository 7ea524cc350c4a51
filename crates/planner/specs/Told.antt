-- The sheet's own refusals, told by planning, with either report: any number but 0 and 9 at a line just for its cause, whatever the buffer.
-- Document 01, the table of causes; 02, Card 1. (Of 0 and 9 the demands tell: they depend on the report's length.)
use Rattle.std.specs.Prelude.{◌≡◌, refl, Bool, true, false, cond, ◌↔◌, ◌⊎◌, ◌≢◌, List, ℕ, ◌≤◌, leb, length}
use Rattle.std.proofs.Math.Logic.{inl, inr}
use Rattle.std.proofs.Common.{arith}
use Rattle.model.specs.declared.Edition.{Edition}
use Rattle.sheet.specs.Sheet.{Read, refused, accepted, read_sheet, edition_of}
use Rattle.sheet.specs.Causes.{Refusal}
use Rattle.sheet.specs.SheetTheorem.{a_sheet_is_refused_for_its_cause}
use Rattle.planner.specs.Outcome.{Planned, number, line_of, Reporter, deliver, plan_read, planned_by}

-- a report delivered is told as 0 or 9
pub zero_or_nine : (r b : List ℕ) → (number (deliver r b).outcome ≡ 0) ⊎ (number (deliver r b).outcome ≡ 9)
unfolding deliver
zero_or_nine r b = by (leb (length r) (length b)) _ _ refl refl
  where
    by : (t : Bool) (p q : Planned) → number p.outcome ≡ 0 → number q.outcome ≡ 9
        → (number (cond t p q).outcome ≡ 0) ⊎ (number (cond t p q).outcome ≡ 9)
    by true p q e f = inl e
    by false p q e f = inr f

module _ (text : Reporter) (known : List Edition) (s b : List ℕ) where
  pub a_number_of_the_sheet_is_told_just_for_its_cause : (k l : ℕ) → 1 ≤ k → k ≢ 9
      → ((number (planned_by text known s b).outcome ≡ k) × (line_of (planned_by text known s b).outcome ≡ l)) ↔ Refusal (edition_of known s) s k l
  unfolding planned_by plan_read
  a_number_of_the_sheet_is_told_just_for_its_cause k l some other =
      let law = a_sheet_is_refused_for_its_cause (edition_of known s) s k l in (λ t. law.0 (by (read_sheet known s) t), λ c. rw (law.1 c) (refl, refl))
    where
      by : (r : Read) → (number (plan_read text s b r).outcome ≡ k) × (line_of (plan_read text s b r).outcome ≡ l) → r ≡ refused k l
      by (refused n m) t = let e = t.0 in let f = t.1 in cc
      by (accepted net) t = elim (zero_or_nine (text s net) b) [
        | inl e ↦ absurd (omega (arith, t.0, e))
        | inr e ↦ absurd (other (omega (arith, t.0, e)))
      ]
