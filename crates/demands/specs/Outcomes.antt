-- What planning comes to, by the cases of its definition, for either report: the sheet refused, the report longer than the buffer, the report delivered.
-- And what the program prints of it: a report or the line of a refusal stands at the front of the buffer.
use Rattle.std.specs.Prelude.{◌≡◌, List, [], ◌∷◌, ◌++◌, ℕ, ◌≤◌, ◌<◌, length, Ok}
use Rattle.std.proofs.Math.Path.{sym, ap}
use Rattle.std.proofs.Common.{◌∙◌, arith, zero-add, length-append}
use Rattle.std.proofs.Math.Decide.{dec_le}
use borrow.Author.Tests.{le-leb, lt-leb}
use Rattle.std.proofs.Math.ListN.{drop}
use Rattle.std.proofs.Math.Seq.{take-append_seam, sets, sets-eq}
use Rattle.model.specs.Limits.{BYTES, REPORT}
use Rattle.model.specs.Refusals.{refused_as}
use Rattle.model.specs.declared.Edition.{Edition}
use Rattle.lists.specs.Sums.{cases}
use Rattle.sheet.specs.Sheet.{Network, refused, accepted, read_sheet}
use Rattle.text_writers.specs.Decimal.{decimal-within, decimal-length}
use Rattle.report.specs.Report.{decimal, line, refusal_line}
use Rattle.planner.specs.Outcome.{number, Reporter, deliver, plan_read, planned_by, Answer, spelt, answered_by}
use Rattle.demands.specs.Printed.{bytes_told, bytes_printed}

-- an answer in the buffer b that has the text r at its front
abbrev pub fronted : List ℕ → List ℕ → Answer
fronted b r = record { length = length r; buffer = r ++ drop (length r) b }

pub the_front_is_printed : (b r : List ℕ) → bytes_printed (fronted b r) ≡ r
unfolding bytes_printed
the_front_is_printed b r = take-append_seam r (drop (length r) b)

module _ (text : Reporter) (known : List Edition) (s b : List ℕ) where
  pub sheet_refused : (k l : ℕ) → read_sheet known s ≡ refused k l → planned_by text known s b ≡ record { outcome = refused_as k l; buffer = b }
  unfolding planned_by plan_read
  sheet_refused k l e = rw e

  module _ (net : Network) (read : read_sheet known s ≡ accepted net) where
    pub report_too_long : length b < length (text s net) → planned_by text known s b ≡ record { outcome = refused_as 9 0; buffer = b }
    unfolding planned_by plan_read deliver
    report_too_long l = rw (read, lt-leb (length (text s net)) (length b) l)

    pub report-delivered : length (text s net) ≤ length b
        → planned_by text known s b ≡ record { outcome = Ok (length (text s net)); buffer = text s net ++ drop (length (text s net)) b }
    unfolding planned_by plan_read deliver
    report-delivered l = rw (read, le-leb (length (text s net)) (length b) l)

    -- where planning tells success, the bytes told are the report
    pub the_report_is_told : number (planned_by text known s b).outcome ≡ 0 → bytes_told (planned_by text known s b) ≡ text s net
    unfolding bytes_told
    the_report_is_told success = cases (dec_le (length (text s net)) (length b))
        (λ l. rw (report-delivered l) (take-append_seam (text s net) (drop (length (text s net)) b)))
        (λ l. absurd (omega (arith, sym success ∙ ap (λ p. number p.outcome) (report_too_long (omega arith)))))

  -- ---- what the program prints

  pub report-answered : (net : Network) → read_sheet known s ≡ accepted net → length (text s net) ≤ length b
      → answered_by text known s b ≡ fronted b (text s net)
  unfolding answered_by spelt
  report-answered net read l = rw (report-delivered net read l)

  pub refusal-answered : (k l : ℕ) → read_sheet known s ≡ refused k l → length (refusal_line k l) ≤ length b
      → answered_by text known s b ≡ fronted b (refusal_line k l)
  unfolding answered_by spelt
  refusal-answered k l e h =
      let t = refusal_line k l in
      let stored : sets b 0 t ≡ t ++ drop (length t) b = sets-eq t b 0 (omega arith) ∙ ap (λ i. t ++ drop i b) (zero-add (length t)) in
      rw (sheet_refused k l e, stored)

-- the line of a refusal is shorter than a report may be
pub a_refusal_is_small : (k l : ℕ) → k ≤ 19 → l ≤ BYTES → length (refusal_line k l) ≤ REPORT
unfolding refusal_line line
a_refusal_is_small k l few low = omega (
  arith,
  length-append (decimal k) (9 ∷ (decimal l ++ (10 ∷ []))),
  length-append (decimal l) (10 ∷ []),
  decimal-within 1 k (omega arith),
  decimal-length l (omega arith),
)
