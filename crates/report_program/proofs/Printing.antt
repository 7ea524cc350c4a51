-- What is printed for an outcome, and of which sheet.
use Rattle.std.specs.Prelude.{◌≡◌, List, ℕ, ◌+◌, ◌≤◌, length, take, Option, None, Some, IfSome, Ok, Err}
use Rattle.std.proofs.Common.{refl, subst, ap, sym, ◌∙◌, arith}
use Rattle.std.proofs.lemmas.List.Edits.{sets}
use Rattle.std.specs.Io.KnownBytes.{Appends}
use Rattle.model.specs.Edition.{editions}
use Rattle.model.specs.Limits.{BYTES}
use Rattle.model.specs.declared.Refusal.{Refusal}
use Rattle.report.specs.Report.{refusal_line}
use Rattle.text_streams.specs.Counts.{HoldsFront}
use Rattle.text_refusals.proofs.Lines.{line_is_at_front}
use Rattle.planner.specs.Answers.{a_report_is_within_the_buffer}
use Rattle.planner.specs.Outcome.{Outcome, Reporter, planned_by, spelt}
use Rattle.spans.proofs.Answers.{a_span_is_within_the_buffer}
use Rattle.spans.specs.Outcome.{spanned}
use Rattle.report_program.specs.Printed.{sheet_in, printed}

-- a report lies within the buffer
pub report_is_within : (text : Reporter) (sheet before left : List ℕ) (n : ℕ)
    → Ok n ≡ (planned_by text editions sheet before).outcome → left ≡ (planned_by text editions sheet before).buffer → n ≤ length left
report_is_within text sheet before left n e f = rw f (a_report_is_within_the_buffer text sheet before n (sym e))

pub span_is_within : (sheet before left : List ℕ) (n : ℕ) → Ok n ≡ (spanned sheet before).outcome → left ≡ (spanned sheet before).buffer → n ≤ length left
span_is_within sheet before left n e f = rw f (a_span_is_within_the_buffer sheet before n (sym e))

-- a report is printed as it stands in the buffer
pub report_is_printed : (o : Outcome) (left b : List ℕ) (n : ℕ) → Ok n ≡ o → left ≡ b → take n left ≡ printed (spelt o b)
unfolding spelt
report_is_printed o left b n e f = rw (sym e, sym f) refl

-- and a refusal as its line
pub refusal_is_printed : (o : Outcome) (left b : List ℕ) (r : Refusal) → Err r ≡ o → left ≡ b
    → length (refusal_line r.number r.line) ≤ 50 → 50 ≤ length left → refusal_line r.number r.line ≡ printed (spelt o b)
unfolding spelt
refusal_is_printed o left b r e f short room =
    let line = refusal_line r.number r.line in
    let front = line_is_at_front left line (sets left 0 line) (length line) (record { next = omega arith; stored = refl }) (omega (arith, short, room)) in
    rw (sym e, sym f) (sym front)

-- what was read is the sheet that the input has, so that its answer is what is printed of the input
pub prints_of_input : (known was now : Option (List ℕ)) (n : ℕ) (buffer text : List ℕ) (answer : List ℕ → List ℕ) → length buffer ≡ BYTES + 1
    → IfSome known (HoldsFront n buffer) → Appends was now text → text ≡ answer (take n buffer)
    → IfSome known (λ given. Appends was now (answer (sheet_in given)))
prints_of_input None was now n buffer text answer long front said is = tt
prints_of_input (Some given) was now n buffer text answer long front said is =
    subst (Appends was now) (is ∙ ap answer (front ∙ ap (λ m. take m given) long)) said
