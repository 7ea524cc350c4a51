-- Why a line of a log gets a number, in the order of document 02, Cards 6 and 7: form faults, 3, 6, then for `-` 14, for `+` 15, then 16. Each number just
-- for its cause, and 0 just where no cause applies. By the line, the look-ups of its names, the path between its ends, and what is open.
use Rattle.std.specs.Prelude.{Bool, List, ◌⊎◌, ◌↔◌, ◌≢◌, ◌≡◌, ℕ, ◌+◌, ◌≤◌, ◌<◌, length, Result, Ok, Err}
use Rattle.std.proofs.Math.Bool.{true, false}
use Rattle.std.proofs.Math.Logic.{inl, inr}
use Rattle.std.proofs.Common.{⊎_elim, sym, subst, ◌∙◌, arith}
use Rattle.std.proofs.Math.Path.{ap}
use Rattle.std.proofs.Math.Decide.{dec_lt}
use Rattle.lists.specs.Sums.{cases}
use Rattle.model.specs.Flows.{Links}
use Rattle.model.specs.Pairing.{lower_first}
use Rattle.model.specs.Booking.{pair, open_of, answer}
use Rattle.model.specs.declared.Pair.{Pair}
use Rattle.model.specs.declared.Request.TheVariants as request
use Rattle.theory_log.specs.Answers.{Overfilled, NoPlace, Opening, overfills, crowds, fits, says_14, says_15, gives_up, overfilled_by}
use Rattle.theory_log.proofs.Answers.{opening}
use Rattle.theory_log.proofs.Answers.{answered_16_exactly_where_nothing_is_overfilled_and_there_is_no_place}
use Rattle.text_lines.specs.Lines.{line_at}
use Rattle.log_lines.specs.LogLines.{sign, log_line}
use Rattle.log_lines.proofs.BookingLaws.{asks_makes}
use Rattle.log_lines.specs.FaultyLogLines.{LineFault, no_sign, wrong_count, bad_name, bare_name, bad_number, wrong_amount, Tells}
use Rattle.log_lines.proofs.FaultyLogLines.{a-line-tells}
use Rattle.log_lines.proofs.FaultyLogLines.{a_log_line_is_a_fault_just_for_its_cause}
use Rattle.log_lines.specs.declared.Booking.{Booking}
use Rattle.log_requests.specs.Requests.{request_for, request_by, request_at}
use Rattle.log_requests.specs.RequestLaws.{unended_line, ended_line}
use Rattle.log_requests.specs.TwoEnds.{Asking, amount_of}
use Rattle.log_requests.specs.TwoEnds as two
use Rattle.log_requests.proofs.TwoEnds as two_laws

-- over the names of the sheet s, its links, ends t and capacities c; es is what is open
module _ (s : List ℕ) (names : List (ℕ × ℕ)) (ls : Links) (t : ℕ → ℕ) (c : ℕ → ℕ) (es : List Pair) (log : List ℕ) (at : ℕ) where
  abbrev pub TwoEnds : ℕ → ℕ → Type 0
  TwoEnds = two.TwoEnds s names ls t log at

  abbrev pub NotTwoEnds : Type 0
  NotTwoEnds = two.NotTwoEnds s names ls t log at

  -- the pair that the line means, the lower site first: the names may stand in either order
  abbrev pub meant : ℕ → ℕ → Pair
  meant a b = lower_first (pair a b (amount_of log at))

  -- why the line gets a number
  pub data Cause : ℕ → Type 0 where
    unended : length log ≤ at + length (line_at log at) → Cause 2
    malformed : {k : ℕ} → at + length (line_at log at) < length log → LineFault (line_at log at) k → Cause k
    not-two-ends : (opens : Bool) → Asking (sign opens) log at → NotTwoEnds → Cause 6
    less-open : {a b : ℕ} → Asking (sign false) log at → TwoEnds a b → open_of (meant a b).first (meant a b).second es < (meant a b).amount → Cause 14
    overfilling : {a b : ℕ} → Asking (sign true) log at → TwoEnds a b → Overfilled ls c es (meant a b) → Cause 15
    no_place : {a b : ℕ} → Asking (sign true) log at → TwoEnds a b → (¬ (Overfilled ls c es (meant a b))) → NoPlace ls c es (meant a b) → Cause 16

  -- ---- what the line asks

  asked-between : (opens : Bool) {a b : ℕ} → Asking (sign opens) log at → TwoEnds a b
      → request_at false s names ls t log at ≡ request_for opens (pair a b (amount_of log at))
  asked-between opens k z = two_laws.asked-between s names ls t log at k false opens (asks_makes (line_at log at) opens k.asks) z

  asked_of_none : (opens : Bool) → Asking (sign opens) log at → NotTwoEnds → request_at false s names ls t log at ≡ request.Fault 6
  asked_of_none opens k none = two_laws.asked_of_none s names ls t log at k false opens (asks_makes (line_at log at) opens k.asks) none

  -- ---- a cause makes its number

  pub a_cause_makes_its_number : {k : ℕ} → Cause k → answer ls c es (request_at false s names ls t log at) ≡ k
  unfolding answer request_at request_by
  a_cause_makes_its_number (unended h) = rw (unended_line log false at h)
  a_cause_makes_its_number (malformed {k} h f) = rw (ended_line log false at h, (a_log_line_is_a_fault_just_for_its_cause (line_at log at) k).1 f)
  a_cause_makes_its_number (not-two-ends opens k none) = ap (answer ls c es) (asked_of_none opens k none)
  a_cause_makes_its_number (less-open {a} {b} k z h) = ap (answer ls c es) (asked-between false k z) ∙ says_14 ls c es (meant a b) h
  a_cause_makes_its_number (overfilling {a} {b} k z o) =
      ap (answer ls c es) (asked-between true k z) ∙ says_15 ls c es (meant a b) (overfilled_by ls c es (meant a b) o)
  a_cause_makes_its_number (no_place {a} {b} k z d w) =
      ap (answer ls c es) (asked-between true k z) ∙ (answered_16_exactly_where_nothing_is_overfilled_and_there_is_no_place ls c es (meant a b)).1 (d, w)

  -- which is not 0
  fault_is_some : {l : List ℕ} {k : ℕ} → LineFault l k → 1 ≤ k
  fault_is_some (no_sign h) = omega arith
  fault_is_some (wrong_count h) = omega arith
  fault_is_some (bad_name h) = omega arith
  fault_is_some (bare_name h) = omega arith
  fault_is_some (bad_number h) = omega arith
  fault_is_some (wrong_amount h) = omega arith

  pub a-cause-is-some : {k : ℕ} → Cause k → 1 ≤ k
  a-cause-is-some (unended h) = omega arith
  a-cause-is-some (malformed h f) = fault_is_some f
  a-cause-is-some (not-two-ends opens k none) = omega arith
  a-cause-is-some (less-open k z h) = omega arith
  a-cause-is-some (overfilling k z o) = omega arith
  a-cause-is-some (no_place k z d w) = omega arith

  -- ---- a line has a cause, or gets 0

  abbrev Decided : Type 0
  Decided = ((k : ℕ) × Cause k) ⊎ (answer ls c es (request_at false s names ls t log at) ≡ 0)

  two-ends-decide : (opens : Bool) {a b : ℕ} → Asking (sign opens) log at → TwoEnds a b → Decided
  unfolding answer
  two-ends-decide true {a} {b} k z = by (opening ls c es (meant a b))
    where
      by : Opening ls c es (meant a b) → Decided
      by (overfills o e) = inl (15, overfilling k z o)
      by (crowds o w e) = inl (16, no_place k z (λ p. overfilled_by ls c es (meant a b) p o) w)
      by (fits o d e) = inr (ap (answer ls c es) (asked-between true k z) ∙ e)
  two-ends-decide false {a} {b} k z = cases (dec_lt (open_of (meant a b).first (meant a b).second es) (meant a b).amount)
      (λ h. inl (14, less-open k z h))
      (λ h. inr (ap (answer ls c es) (asked-between false k z) ∙ gives_up ls c es (meant a b) (omega arith)))

  line_decides : at + length (line_at log at) < length log → (w : Result Booking ℕ) → Tells (line_at log at) w → Decided
  line_decides h (Ok b) (k, q) =
      let asking : Asking (sign b.opens) log at = record { ended = h; asks = k } in
      ⊎_elim (λ z. two-ends-decide b.opens asking z.2) (λ none. inl (6, not-two-ends b.opens asking none)) (two.two-ends-or-not s names ls t log at)
  line_decides h (Err k) f = inl (k, malformed h f)

  pub decided : Decided
  decided = cases (dec_lt (at + length (line_at log at)) (length log))
      (λ h. line_decides h (log_line (line_at log at)) (a-line-tells (line_at log at)))
      (λ h. inl (2, unended (omega arith)))

  -- ---- each number just for its cause, and 0 just without one

  pub a_line_gets_a_number_just_for_its_cause : (k : ℕ) → k ≢ 0 → (answer ls c es (request_at false s names ls t log at) ≡ k) ↔ Cause k
  a_line_gets_a_number_just_for_its_cause k d =
      (λ e. ⊎_elim (λ w. subst Cause (sym (a_cause_makes_its_number w.1) ∙ e) w.1) (λ z. absurd (d (sym e ∙ z))) decided, a_cause_makes_its_number)

  pub a_line_gets_0_just_where_no_cause_applies : (answer ls c es (request_at false s names ls t log at) ≡ 0) ↔ ((k : ℕ) → ¬ (Cause k))
  a_line_gets_0_just_where_no_cause_applies =
      (λ e k w. omega (arith, a_cause_makes_its_number w, a-cause-is-some w), λ none. ⊎_elim (λ w. absurd (none w.0 w.1)) (λ z. z) decided)
