-- Why a line of a plan drawn by hand gets a number, in the order of document 02, Card 12: form faults as in a log, 3, 6, then 20. Each number just for its
-- cause, and 0 just where no cause applies. By the line, the look-ups of its names, the path between its ends, and the lines before it.
use Rattle.std.proofs.Math.Bool.{true}
use mathlib.Core.List.{List, []}
use Rattle.std.specs.Prelude.{◌⊎◌, ◌↔◌, ◌≢◌, ◌≡◌, refl, ℕ, ◌+◌, ◌≤◌, ◌<◌, length, take, Result, Ok, Err}
use Rattle.std.proofs.Math.Logic.{inl, inr}
use Rattle.std.proofs.Common.{⊎_elim, subst, ◌∙◌, arith, get_or-take, length-take-le}
use Rattle.std.proofs.Math.Path.{sym, ap}
use Rattle.std.proofs.Math.Decide.{dec_lt}
use Rattle.lists.specs.Numbers.{look}
use Rattle.lists.specs.Sums.{same?, cases, contradiction, pick_other, pick_same}
use Rattle.model.specs.Pairing.{lower_first}
use Rattle.model.specs.Booking.{pair, places_of}
use Rattle.model.specs.declared.Request.{Request}
use Rattle.model.specs.declared.Request.TheVariants as request
use Rattle.theory_log.specs.Logs.{line}
use Rattle.theory_verdicts.specs.HandPlan.{line_answer}
use Rattle.theory_verdicts.specs.Accounts.{drawn, answer_at}
use Rattle.theory_verdicts.specs.Earlier.{EitherOrder}
use Rattle.theory_verdicts.proofs.Earlier.{a-place-is-entered, what_is_entered_has_a_place, the_lower_first_are_the_same_in_either_order}
use Rattle.text_lines.specs.Lines.{line_at}
use Rattle.sheet.specs.Sheet.{Network}
use Rattle.log_lines.specs.LogLines.{plan_letter, plan_line}
use Rattle.log_lines.proofs.BookingLaws.{asks_makes_plan}
use Rattle.log_lines.specs.FaultyPlanLines.{PlanFault, no_letter, wrong_count, bad_name, bare_name, bad_number, wrong_amount, Tells}
use Rattle.log_lines.proofs.FaultyPlanLines.{a_plan_line_tells}
use Rattle.log_lines.proofs.FaultyPlanLines.{a_plan_line_is_a_fault_just_for_its_cause}
use Rattle.log_lines.specs.declared.Booking.{Booking}
use Rattle.log_requests.specs.Requests.{lines, request_by, request_at, requests, is_end}
use Rattle.log_requests.specs.RequestLaws.{unended_line, ended_line}
use Rattle.log_requests.proofs.RequestLaws.{what_a_line_asks, as_many_requests_as_lines}
use Rattle.log_requests.specs.TwoEnds.{Asking, amount_of}
use Rattle.log_requests.specs.TwoEnds as two
use Rattle.log_requests.proofs.TwoEnds as two_laws

-- over the network of an accepted sheet s
module _ (s : List ℕ) (net : Network) (plan : List ℕ) where
  -- where the line at place p starts
  abbrev pub start : ℕ → ℕ
  start p = look (lines plan) p

  -- its two names are those of a and b, two different ends free to be joined; or not
  abbrev pub TwoEnds : ℕ → ℕ → ℕ → Type 0
  TwoEnds p = two.TwoEnds s net.names net.links (is_end net) plan (start p)

  abbrev pub NotTwoEnds : ℕ → Type 0
  NotTwoEnds p = two.NotTwoEnds s net.names net.links (is_end net) plan (start p)

  -- it is ended, well formed, and its amount is within the limits
  abbrev pub WellFormed : ℕ → Type 0
  WellFormed p = Asking plan_letter plan (start p)

  -- an earlier line gives the pair of a and b, in either order
  pub record Earlier (p a b : ℕ) : Type 0 where
    pub place : ℕ
    pub before : place < p
    pub well_formed : WellFormed place
    pub first : ℕ
    pub second : ℕ
    pub two_ends : TwoEnds place first second
    pub either : EitherOrder a b first second

  -- why the line at place p gets a number
  pub data Cause (p : ℕ) : ℕ → Type 0 where
    unended : length plan ≤ start p + length (line_at plan (start p)) → Cause p 2
    malformed : {k : ℕ} → start p + length (line_at plan (start p)) < length plan → PlanFault (line_at plan (start p)) k → Cause p k
    not-two-ends : WellFormed p → NotTwoEnds p → Cause p 6
    given-before : {a b : ℕ} → WellFormed p → TwoEnds p a b → Earlier p a b → Cause p 20

  abbrev rs : List Request
  rs = requests true s net.names net.links (is_end net) plan

  -- what the line at an offset asks
  abbrev asks : ℕ → Request
  asks at = request_at true s net.names net.links (is_end net) plan at

  -- the answer to the line at place p, by the entries of the lines before it
  abbrev pub number_at : ℕ → ℕ
  number_at p = answer_at [] (requests true s net.names net.links (is_end net) plan) p

  -- ---- what a line asks

  asked-between : (p : ℕ) {a b : ℕ} → WellFormed p → TwoEnds p a b → asks (start p) ≡ request.Open (pair a b (amount_of plan (start p)))
  asked-between p k z =
      two_laws.asked-between s net.names net.links (is_end net) plan (start p) k true true (asks_makes_plan (line_at plan (start p)) k.asks) z

  asked_of_none : (p : ℕ) → WellFormed p → NotTwoEnds p → asks (start p) ≡ request.Fault 6
  asked_of_none p k none =
      two_laws.asked_of_none s net.names net.links (is_end net) plan (start p) k true true (asks_makes_plan (line_at plan (start p)) k.asks) none

  -- what a line is found to be: a fault with its number, or a pair of two ends
  data Found (p : ℕ) : Type 0 where
    fault : {k : ℕ} → Cause p k → asks (start p) ≡ request.Fault k → 1 ≤ k → Found p
    ends : (a b : ℕ) → WellFormed p → TwoEnds p a b → Found p

  fault_is_some : {l : List ℕ} {k : ℕ} → PlanFault l k → 1 ≤ k
  fault_is_some (no_letter h) = omega arith
  fault_is_some (wrong_count h) = omega arith
  fault_is_some (bad_name h) = omega arith
  fault_is_some (bare_name h) = omega arith
  fault_is_some (bad_number h) = omega arith
  fault_is_some (wrong_amount h) = omega arith

  fault_is_small : {l : List ℕ} {k : ℕ} → PlanFault l k → k ≤ 20
  fault_is_small (no_letter h) = omega arith
  fault_is_small (wrong_count h) = omega arith
  fault_is_small (bad_name h) = omega arith
  fault_is_small (bare_name h) = omega arith
  fault_is_small (bad_number h) = omega arith
  fault_is_small (wrong_amount h) = omega arith

  malformed_asks : (p : ℕ) {k : ℕ} → start p + length (line_at plan (start p)) < length plan → PlanFault (line_at plan (start p)) k → asks (start p)
      ≡ request.Fault k
  unfolding request_at request_by
  malformed_asks p {k} h f =
      rw (ended_line plan true (start p) h, (a_plan_line_is_a_fault_just_for_its_cause (line_at plan (start p)) k).1 f)

  unended_asks : (p : ℕ) → length plan ≤ start p + length (line_at plan (start p)) → asks (start p) ≡ request.Fault 2
  unfolding request_at request_by
  unended_asks p h = rw (unended_line plan true (start p) h)

  found : (p : ℕ) → Found p
  found p = cases (dec_lt (start p + length (line_at plan (start p))) (length plan))
      (λ h. by h (plan_line (line_at plan (start p))) (a_plan_line_tells (line_at plan (start p))))
      (λ h. let l : length plan ≤ start p + length (line_at plan (start p)) = omega arith in fault (unended l) (unended_asks p l) (omega arith))
    where
      by : start p + length (line_at plan (start p)) < length plan → (w : Result Booking ℕ) → Tells (line_at plan (start p)) w → Found p
      by h (Ok b) (k, q) =
          let formed : WellFormed p = record { ended = h; asks = k } in
          ⊎_elim (λ z. ends z.0 z.1 formed z.2) (λ none. fault (not-two-ends formed none) (asked_of_none p formed none) (omega arith))
          (two.two-ends-or-not s net.names net.links (is_end net) plan (start p))
      by h (Err k) f = fault (malformed h f) (malformed_asks p h f) (fault_is_some f)

  -- ---- an earlier line, by the entries

  -- the pair of a and b, the lower site first, and how many places it has in the entries of the lines before
  placed : ℕ → ℕ → ℕ → ℕ → ℕ
  placed p a b x = places_of (lower_first (pair a b x)).first (lower_first (pair a b x)).second (drawn [] (take p rs))

  module _ (p : ℕ) (here : p < length (lines plan)) where
    as_many : length (take p rs) ≡ p
    as_many = length-take-le p rs (omega (arith, as_many_requests_as_lines true s net.names net.links (is_end net) plan))

    -- a line before
    line_before : (q : ℕ) → q < p → line (take p rs) q ≡ asks (start q)
    line_before q l = get_or-take p rs q (request.Fault 0) l ∙ what_a_line_asks true s net.names net.links (is_end net) plan q (omega arith)

    line-here : line rs p ≡ asks (start p)
    line-here = what_a_line_asks true s net.names net.links (is_end net) plan p here

    earlier-is-placed : (a b x : ℕ) → Earlier p a b → placed p a b x ≢ 0
    unfolding placed
    earlier-is-placed a b x e =
        what_is_entered_has_a_place (lower_first (pair a b x)).first (lower_first (pair a b x)).second [] (take p rs) e.place
        (pair e.first e.second (amount_of plan (start e.place))) (omega (arith, e.before, as_many))
        (line_before e.place e.before ∙ asked-between e.place e.well_formed e.two_ends)
        ((the_lower_first_are_the_same_in_either_order a b x e.first e.second (amount_of plan (start e.place))).1 e.either)

    placed-is-earlier : (a b x : ℕ) → placed p a b x ≢ 0 → Earlier p a b
    unfolding placed places_of
    placed-is-earlier a b x d =
        elim (a-place-is-entered (lower_first (pair a b x)).first (lower_first (pair a b x)).second [] (take p rs) d) [
          | inl z ↦ absurd (z refl)
          | inr w ↦
              let before : w.place < p = omega (arith, w.before, as_many) in
              let asked = sym (line_before w.place before) ∙ w.asked in
              elim (found w.place) [
                | fault c e some ↦ contradiction cc
                | ends f g k z ↦
                    let same : w.pair-asked ≡ pair f g (amount_of plan (start w.place)) = cc (asked-between w.place k z) in
                    record {
                      place = w.place;
                      before = before;
                      well_formed = k;
                      first = f;
                      second = g;
                      two_ends = z;
                      either = (the_lower_first_are_the_same_in_either_order a b x f g (amount_of plan (start w.place))).0 (rw same at w.meant);
                    }
              ]
        ]

    -- ---- a cause makes its number

    -- of a pair of two ends
    of-ends : {a b : ℕ} → WellFormed p → TwoEnds p a b → number_at p ≡ line_answer (drawn [] (take p rs)) (request.Open (pair a b (amount_of plan (start p))))
    of-ends k z = ap (line_answer (drawn [] (take p rs))) (line-here ∙ asked-between p k z)

    of-fault : {k : ℕ} → asks (start p) ≡ request.Fault k → number_at p ≡ k
    unfolding line_answer
    of-fault e = ap (line_answer (drawn [] (take p rs))) (line-here ∙ e)

    pub a_cause_makes_its_number : {k : ℕ} → Cause p k → number_at p ≡ k
    unfolding line_answer placed
    a_cause_makes_its_number (unended h) = of-fault (unended_asks p h)
    a_cause_makes_its_number (malformed h f) = of-fault (malformed_asks p h f)
    a_cause_makes_its_number (not-two-ends k none) = of-fault (asked_of_none p k none)
    a_cause_makes_its_number (given-before {a} {b} k z e) =
        of-ends k z ∙ pick_other (earlier-is-placed a b (amount_of plan (start p)) e) _ _

    pub a-cause-is-some : {k : ℕ} → Cause p k → 1 ≤ k
    a-cause-is-some (unended h) = omega arith
    a-cause-is-some (malformed h f) = fault_is_some f
    a-cause-is-some (not-two-ends k none) = omega arith
    a-cause-is-some (given-before k z e) = omega arith

    pub a_cause_is_small : {k : ℕ} → Cause p k → k ≤ 20
    a_cause_is_small (unended h) = omega arith
    a_cause_is_small (malformed h f) = fault_is_small f
    a_cause_is_small (not-two-ends k none) = omega arith
    a_cause_is_small (given-before k z e) = omega arith

    -- a line has a cause, or gets 0
    pub decided : ((k : ℕ) × Cause p k) ⊎ (number_at p ≡ 0)
    unfolding line_answer placed
    decided = elim (found p) [
      | fault {k} c e some ↦ inl (k, c)
      | ends a b k z ↦ same? (placed p a b (amount_of plan (start p))) 0
          (λ n. inr (of-ends k z ∙ pick_same n _ _))
          (λ d. inl (20, given-before k z (placed-is-earlier a b (amount_of plan (start p)) d)))
    ]

    -- ---- each number just for its cause, and 0 just without one

    pub a_line_gets_a_number_just_for_its_cause : (k : ℕ) → k ≢ 0 → (number_at p ≡ k) ↔ Cause p k
    a_line_gets_a_number_just_for_its_cause k d =
        (λ e. ⊎_elim (λ w. subst (Cause p) (sym (a_cause_makes_its_number w.1) ∙ e) w.1) (λ z. absurd (d (sym e ∙ z))) decided, a_cause_makes_its_number)

    pub a_line_gets_0_just_where_no_cause_applies : (number_at p ≡ 0) ↔ ((k : ℕ) → ¬ (Cause p k))
    a_line_gets_0_just_where_no_cause_applies =
        (λ e k w. omega (arith, a_cause_makes_its_number w, a-cause-is-some w), λ none. ⊎_elim (λ w. absurd (none w.0 w.1)) (λ z. z) decided)
