-- What the program prints: a report lies within the buffer, and a refusal's line stands at its front. For any report.
use Rattle.std.specs.Prelude.{◌≡◌, Bool, cond, ℕ, ◌≤◌, leb, Ok, Err}
use Rattle.std.proofs.Math.Path.{refl}
use Rattle.std.proofs.Common.{ap, arith, length-append}
use Rattle.std.proofs.Math.Bool.{true, false}
use mathlib.Core.List.{List, ◌++◌}
use Rattle.std.proofs.Math.ListN.{length, drop}
use Rattle.std.proofs.Math.Seq.{length-sets}
use Rattle.model.specs.Edition.{editions}
use Rattle.model.specs.Refusals.{refused_as}
use Rattle.model.specs.declared.Refusal.{Refusal}
use Rattle.sheet.specs.Sheet.{Read, refused, accepted, read_sheet}
use Rattle.report.specs.Report.{refusal_line}
use Rattle.text_writers.specs.Wrote.{Wrote}
use Rattle.planner.specs.Outcome.{Planned, Reporter, deliver, plan_read, planned_by, spelt, answered_by}
use Rattle.lists.specs.Sums.{contradiction}

-- a report's length is within the buffer after
pub delivered-within : (r b : List ℕ) (n : ℕ) → (deliver r b).outcome ≡ Ok n → n ≤ length (deliver r b).buffer
unfolding deliver
delivered-within r b n e = by (leb (length r) (length b)) e
  where
    by : (t : Bool)
        → (cond {A = Planned} t (record { outcome = Ok (length r); buffer = r ++ drop (length r) b })
        (record { outcome = refused_as 9 0; buffer = b })).outcome ≡ Ok n
        → n ≤ length
        (cond {A = Planned} t (record { outcome = Ok (length r); buffer = r ++ drop (length r) b })
        (record { outcome = refused_as 9 0; buffer = b })).buffer
    by true q = let z : length r ≡ n = cc in omega (arith, length-append r (drop (length r) b))
    by false q = contradiction cc

module _ (text : Reporter) (s b : List ℕ) where
  pub a_report_is_within_the_buffer : (n : ℕ) → (planned_by text editions s b).outcome ≡ Ok n → n ≤ length (planned_by text editions s b).buffer
  unfolding planned_by plan_read
  a_report_is_within_the_buffer n e = by (read_sheet editions s) e
    where
      by : (r : Read) → (plan_read text s b r).outcome ≡ Ok n → n ≤ length (plan_read text s b r).buffer
      by (refused k l) q = contradiction cc
      by (accepted net) q = delivered-within (text s net) b n q

  -- a refusal leaves the buffer
  refused_stays : (f : Refusal) → (planned_by text editions s b).outcome ≡ Err f → (planned_by text editions s b).buffer ≡ b
  unfolding planned_by plan_read deliver
  refused_stays f e = by (read_sheet editions s) e
    where
      within : (r : List ℕ) (t : Bool)
          → (cond {A = Planned} t (record { outcome = Ok (length r); buffer = r ++ drop (length r) b })
          (record { outcome = refused_as 9 0; buffer = b })).outcome ≡ Err f
          → (cond {A = Planned} t (record { outcome = Ok (length r); buffer = r ++ drop (length r) b })
          (record { outcome = refused_as 9 0; buffer = b })).buffer ≡ b
      within r true q = contradiction cc
      within r false q = refl

      by : (r : Read) → (plan_read text s b r).outcome ≡ Err f → (plan_read text s b r).buffer ≡ b
      by (refused n m) q = refl
      by (accepted net) q = within (text s net) (leb (length (text s net)) (length b)) q

  -- a report is printed as it stands
  pub a_report_is_printed : (n : ℕ) → (planned_by text editions s b).outcome ≡ Ok n
      → answered_by text editions s b ≡ record { length = n; buffer = (planned_by text editions s b).buffer }
  unfolding answered_by spelt
  a_report_is_printed n e = rw e

  module _ (f : Refusal) (e : (planned_by text editions s b).outcome ≡ Err f)
      (after : List ℕ) (r : ℕ) (w : Wrote (planned_by text editions s b).buffer 0 (refusal_line f.number f.line) after r) where
    -- a refusal is printed as its line
    pub a_refusal_is_printed : answered_by text editions s b ≡ record { length = r; buffer = after }
    unfolding answered_by spelt
    a_refusal_is_printed =
        let z : length (refusal_line f.number f.line) ≡ r = omega (arith, w.next) in
        rw (e, z, w.stored)

    -- and the line lies within a buffer of 50 bytes
    pub a_refusal_is_within_the_buffer : r ≤ 50 → 50 ≤ length b → r ≤ length after
    a_refusal_is_within_the_buffer small h = omega (
      arith,
      ap length w.stored,
      length-sets (planned_by text editions s b).buffer 0 (refusal_line f.number f.line),
      ap length (refused_stays f e),
    )
