-- The number that tells a judgement, taken apart, gives its outcome, for every sheet and plan: the text, which is 0 of a verdict and of nothing else;
-- of a refusal the number and the line; of a verdict the total and yes or no. Nothing is lost: numbers are at most 21, a line at fault is one of the sheet or of
-- the plan, and a total is at most PLANLINES times AMOUNT.
use Rattle.std.specs.Prelude.{Bool, true, false, cond, List, ℕ, ◌≡◌, ◌+◌, ◌*◌, ◌%◌, Ok, Err}
use Rattle.std.proofs.Common.{arith}
use Rattle.model.specs.Edition.{editions}
use Rattle.sheet.proofs.Editions.{a_line_at_fault_is_within_the_limit}
use Rattle.verdicts.specs.Outcome.{Outcome, judged}
use Rattle.verdicts.specs.Causes.{a_cause_is_small}
use Rattle.verdicts.specs.Told.{JudgeTold, faulty_sheet, long_plan, faulty_line, heavy_plan, accepted_plan}
use Rattle.verdicts.proofs.Told.{the_verdict_is_told_or_its_cause}
use Rattle.packing.specs.Packed.{packed_verdict, unpacked_text, unpacked_number, unpacked_line, unpacked_total, unpacked_yes}
use Rattle.packing.specs.Judged.{Bounded, TellsVerdict}

a_bounded_verdict_is_told : (o : Outcome) → Bounded o → TellsVerdict (packed_verdict o) o
unfolding packed_verdict unpacked_text unpacked_number unpacked_line unpacked_total unpacked_yes
a_bounded_verdict_is_told (Ok v) b = by v.largest
  where
    by : (largest : Bool) → let value = v.total % 4294967296 * 2 + cond largest 1 0 in
        (unpacked_text value ≡ 0) × (unpacked_total value ≡ v.total) × (unpacked_yes value ≡ cond largest 1 0)
    by true = (omega arith, omega arith, omega arith)
    by false = (omega arith, omega arith, omega arith)
a_bounded_verdict_is_told (Err r) b = (λ z. omega arith, omega arith, omega arith, omega arith)

module _ (s plan : List ℕ) where
  bounded : JudgeTold editions s plan → Bounded (judged editions s plan)
  bounded (faulty_sheet k line c n r) =
      let near = a_line_at_fault_is_within_the_limit s c in
      rw r (omega arith, omega arith, omega (arith, n.known), omega arith)
  bounded (long_plan net a h r) = rw r (omega arith, omega arith, omega arith, omega arith)
  bounded (faulty_line net a short p k here c none r) =
      let small = a_cause_is_small s net plan p here c in
      rw r (omega arith, omega arith, omega arith, omega (arith, short.few))
  bounded (heavy_plan net a short clean o r) = rw r (omega arith, omega arith, omega arith, omega arith)
  bounded (accepted_plan net a short clean o w) = rw w.judged-told (omega (arith, w.total-told, w.small))

  -- the number returned, taken apart as the C header does, is the outcome
  pub the_packed_number_tells_the_verdict : TellsVerdict (packed_verdict (judged editions s plan)) (judged editions s plan)
  the_packed_number_tells_the_verdict = a_bounded_verdict_is_told (judged editions s plan) (bounded (the_verdict_is_told_or_its_cause editions s plan))
