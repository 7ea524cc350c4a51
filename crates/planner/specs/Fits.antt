-- Whether a report fits into the buffer, and the outcome either way.
use Rattle.std.specs.Prelude.{◌≡◌, refl, Bool, true, false, cond, List, ◌++◌, ℕ, ◌≤◌, ◌<◌, leb, length, drop, Ok}
use Rattle.std.proofs.Common.{ap, ◌∙◌, arith, zero-add, le-leb, leb-true, leb-false}
use Rattle.std.proofs.lemmas.Bool.{lt-leb}
use Rattle.std.proofs.lemmas.List.Edits.{sets-eq}
use Rattle.model.specs.Limits.{REPORT}
use Rattle.model.specs.Edition.{editions}
use Rattle.model.specs.Refusals.{refused_as}
use Rattle.model.specs.declared.Pairs.{Pairs}
use Rattle.text_writers.specs.Wrote.{Wrote}
use Rattle.report.specs.Report.{Plan, report_of}
use Rattle.planner.specs.Outcome.{Reporter, deliver, plan_read, planned_by}
use Rattle.planner.specs.Ready.{ReadyBy}
use Rattle.lists.specs.Sums.{contradiction}

-- whether the report of a plan goes into so many bytes: no report has more than REPORT
unfoldable pub fits : Plan → ℕ → Bool
fits p room = cond (leb REPORT room) true (leb (length (report_of p)) room)

pub no_room : (p : Plan) (room : ℕ) → fits p room ≡ false → room < length (report_of p)
unfolding fits
no_room p room e = by (leb REPORT room) e
  where
    by : (t : Bool) → cond t true (leb (length (report_of p)) room) ≡ false → room < length (report_of p)
    by true q = contradiction cc
    by false q = leb-false _ _ q

pub room_enough : (p : Plan) (room : ℕ) → fits p room ≡ true → length (report_of p) ≤ REPORT → length (report_of p) ≤ room
unfolding fits
room_enough p room e l = by (leb REPORT room) refl e
  where
    by : (t : Bool) → leb REPORT room ≡ t → cond t true (leb (length (report_of p)) room) ≡ true → length (report_of p) ≤ room
    by true q r = omega (arith, leb-true REPORT room q)
    by false q r = leb-true _ _ r

-- a report that is longer than the buffer
pub too_long : (r b : List ℕ) → length b < length r → deliver r b ≡ record { outcome = refused_as 9 0; buffer = b }
unfolding deliver
too_long r b h = rw (lt-leb (length r) (length b) h)

-- a report that is written into a buffer long enough
pub long-enough : (r b after : List ℕ) (k : ℕ) → length r ≤ length b → Wrote b 0 r after k → deliver r b ≡ record { outcome = Ok k; buffer = after }
unfolding deliver
long-enough r b after k h w =
    let e : k ≡ length r = omega (arith, w.next) in
    let a : after ≡ r ++ drop (length r) b = w.stored ∙ sets-eq r b 0 (omega arith) ∙ ap (λ i. r ++ drop i b) (zero-add (length r)) in
    rw (le-leb (length r) (length b) h, e, a)

-- a report that stands ready is delivered
pub ready_is_delivered : {text : Reporter} {s starting stopping : List ℕ} {p : Plan} {pairs : Pairs} → ReadyBy text s starting stopping p pairs → (b : List ℕ)
    → deliver (report_of p) b ≡ planned_by text editions s b
unfolding planned_by plan_read
ready_is_delivered r b = rw (r.read, r.shows) refl
