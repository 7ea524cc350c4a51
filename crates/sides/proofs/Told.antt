-- What the two steps of one region by itself tell, for every sheet, all names, numbers and lent lists: each number for its cause and for no other, and the list
-- after. Document 02, Card 10.
use Rattle.std.specs.Prelude.{List, ◌++◌, ◌↔◌, ◌≡◌, refl, ℕ, ◌≤◌, ◌<◌, length, drop}
use Rattle.std.proofs.Common.{inl, inr, sym, ap, ◌∙◌, arith}
use Rattle.std.proofs.Math.Decide.{dec_le}
use Rattle.lists.specs.Numbers.{look}
use Rattle.lists.specs.Sums.{cases, contradiction}
use Rattle.model.specs.Refusals.{refused_as}
use Rattle.model.specs.declared.Edition.{Edition}
use Rattle.sheet.specs.Sheet.{Network, Read, refused, accepted, read_sheet, edition_of}
use Rattle.sheet.specs.Causes.{Refusal}
use Rattle.sheet.proofs.Answers.{refusals_have_sheet_numbers}
use Rattle.sheet.specs.SheetTheorem.{a_sheet_is_refused_for_its_cause}
use Rattle.theory_regions.specs.Regions.{first_size, given}
use Rattle.theory_regions.specs.JoinedTree.{Border}
use Rattle.exchanges.specs.Shared.{region_of}
use Rattle.exchanges.specs.SharedLaws.{the_network_is_named}
use Rattle.sides.specs.Outcome.{First, shown_as, answered_as, first_shown, number, line_of, refusal, answered}
use Rattle.sides.specs.Causes.{AcceptedSide, FirstCause, of_the_sheet, no_such_link, Cause, of_the_first_step, number_too_large, list_too_short}
use Rattle.sides.specs.SideLaws.{meant?}
use Rattle.sides.proofs.SideLaws.{a_sheet_refused_shows_nothing, a_sheet_refused_is_given_nothing}
use Rattle.sides.specs.SideLaws.{its_first_size_is_shown, a_size_for_each_link}
use Rattle.sides.proofs.SideLaws.{without-a-link-nothing-is-shown, without-a-link-nothing-is-given}
use Rattle.sides.proofs.SideLaws.{a_larger_number_is_refused, a_shorter_list_is_refused, its_answer_is_delivered}
use Rattle.sides.specs.Told.{FirstTold, SideTold, for_its_cause, is-answered, nothing-shown, size-shown}

module _ (known : List Edition) (s name name' : List ℕ) where
  a_cause_shows_nothing : {k line : ℕ} → FirstCause known s name name' k line → first_shown known s name name' ≡ refused_as k line
  a_cause_shows_nothing (of_the_sheet {k} {line} c) =
      a_sheet_refused_shows_nothing known s name name' k line ((a_sheet_is_refused_for_its_cause (edition_of known s) s k line).1 c)
  a_cause_shows_nothing (no_such_link {net} e none) = without-a-link-nothing-is-shown known s name name' net e none

  is-not-shown : {k line : ℕ} → FirstCause known s name name' k line → FirstTold known s name name'
  is-not-shown c = nothing-shown c (rw (a_cause_shows_nothing c) (record { number-told = refl; line-told = refl; size-told = refl }))

  -- every first step is refused for its cause, or a size is shown
  pub the_first_size_is_told_or_its_cause : FirstTold known s name name'
  the_first_size_is_told_or_its_cause = by (read_sheet known s) refl
    where
      by : (r : Read) → read_sheet known s ≡ r → FirstTold known s name name'
      by (refused k line) e = is-not-shown (of_the_sheet ((a_sheet_is_refused_for_its_cause (edition_of known s) s k line).0 e))
      by (accepted net) e = elim (meant? s net (the_network_is_named known s net e) name name') [
        | inl M ↦
            let A : AcceptedSide known s net name name' M.0 = record { read = e; share = M.1 } in
            size-shown A (rw (its_first_size_is_shown A) (record { number-told = refl; line-told = refl; size-told = refl }))
        | inr none ↦ is-not-shown (no_such_link e none)
      ]

  -- and it is refused for no other
  pub a_first_step_is_refused_for_its_cause : (n at : ℕ) → (first_shown known s name name' ≡ refused_as n at) ↔ FirstCause known s name name' n at
  a_first_step_is_refused_for_its_cause n at = (by the_first_size_is_told_or_its_cause, a_cause_shows_nothing)
    where
      by : FirstTold known s name name' → first_shown known s name name' ≡ refused_as n at → FirstCause known s name name' n at
      by (nothing-shown {k} {line} c h) e =
          let same : ◌≡◌ {A = First} (refused_as k line) (refused_as n at) = sym (a_cause_shows_nothing c) ∙ e in
          let p : k ≡ n = ap (λ (o : First). number o) same in
          let q : line ≡ at = ap (λ (o : First). line_of o) same in
          rw (p, q) at c
      by (size-shown {net} {p} A h) e =
          let same : shown_as (first_size (region_of net) p.shared) ≡ refused_as n at = sym (its_first_size_is_shown A) ∙ e in contradiction cc

module _ (known : List Edition) (s name name' : List ℕ) (told : ℕ) (l : List ℕ) where
  a_cause_refuses : {k line : ℕ} → Cause known s name name' told l k line → answered known s name name' told l ≡ refusal k line l
  a_cause_refuses (of_the_first_step c) = by c
    where
      by : {k line : ℕ} → FirstCause known s name name' k line → answered known s name name' told l ≡ refusal k line l
      by (of_the_sheet {k} {line} c) =
          a_sheet_refused_is_given_nothing known s name name' told l k line ((a_sheet_is_refused_for_its_cause (edition_of known s) s k line).1 c)
      by (no_such_link {net} e none) = without-a-link-nothing-is-given known s name name' net e none told l
  a_cause_refuses (number_too_large A h) = a_larger_number_is_refused A told l h
  a_cause_refuses (list_too_short A h short) = a_shorter_list_is_refused A told l h short

  is_refused : {k line : ℕ} → Cause known s name name' told l k line → SideTold known s name name' told l
  is_refused c = for_its_cause c
      (rw (a_cause_refuses c) (record { number-told = refl; line-told = refl; count-told = refl; sum_told = refl; list_kept = refl }))

  over-a-side : {net : Network} {p : Border} → AcceptedSide known s net name name' p → SideTold known s name name' told l
  over-a-side {net} {p} A = cases (dec_le told (look net.capacities p.shared))
      (λ h. cases (dec_le (length net.links) (length l))
      (λ long. is-answered A h long (rw (its_answer_is_delivered A told l h long) (record {
        number-told = refl;
        line-told = refl;
        count-told = a_size_for_each_link A told l;
        sum_told = refl;
        list_filled = ap (λ n. (given (region_of net) p.shared told).sizes ++ drop n l) (a_size_for_each_link A told l);
      })))
      (λ short. is_refused (list_too_short A h (omega arith))))
      (λ h. is_refused (number_too_large A (omega arith)))

  -- every second step is refused for its cause, or answered
  pub the_answer_is_told_or_its_cause : SideTold known s name name' told l
  the_answer_is_told_or_its_cause = by (read_sheet known s) refl
    where
      by : (r : Read) → read_sheet known s ≡ r → SideTold known s name name' told l
      by (refused k line) e = is_refused (of_the_first_step (of_the_sheet ((a_sheet_is_refused_for_its_cause (edition_of known s) s k line).0 e)))
      by (accepted net) e = elim (meant? s net (the_network_is_named known s net e) name name') [
        | inl M ↦ over-a-side (record { read = e; share = M.1 })
        | inr none ↦ is_refused (of_the_first_step (no_such_link e none))
      ]

  -- and it is refused for no other
  pub a_second_step_is_refused_for_its_cause : (n at : ℕ) → (answered known s name name' told l ≡ refusal n at l) ↔ Cause known s name name' told l n at
  a_second_step_is_refused_for_its_cause n at = (by the_answer_is_told_or_its_cause, a_cause_refuses)
    where
      by : SideTold known s name name' told l → answered known s name name' told l ≡ refusal n at l → Cause known s name name' told l n at
      by (for_its_cause {k} {line} c h) e =
          let same : refusal k line l ≡ refusal n at l = sym (a_cause_refuses c) ∙ e in
          let p : k ≡ n = ap (λ o. number o.outcome) same in
          let q : line ≡ at = ap (λ o. line_of o.outcome) same in
          rw (p, q) at c
      by (is-answered {net} {p} A h long r) e =
          let u = given (region_of net) p.shared told in
          let same : answered_as (length u.sizes) u.sum ≡ refused_as n at = ap (λ o. o.outcome) (sym (its_answer_is_delivered A told l h long) ∙ e) in
          contradiction cc

  -- ---- which numbers

  -- 18 is no number of a sheet: it is told where the names mean no link, or the number passes the link's usable size, at line 0
  pub eighteen_is_no_number_of_a_sheet : {line : ℕ} → ¬ (Refusal (edition_of known s) s 18 line)
  eighteen_is_no_number_of_a_sheet c = elim ((refusals_have_sheet_numbers (edition_of known s) s c).not_of_a_log (omega arith)) [
    | inl e ↦ omega arith
    | inr e ↦ omega arith
  ]

  -- 0 is success alone
  pub a_refusal_has_a_number : {k line : ℕ} → Cause known s name name' told l k line → 1 ≤ k
  a_refusal_has_a_number (of_the_first_step (of_the_sheet c)) = (refusals_have_sheet_numbers (edition_of known s) s c).some
  a_refusal_has_a_number (of_the_first_step (no_such_link e none)) = omega arith
  a_refusal_has_a_number (number_too_large A h) = omega arith
  a_refusal_has_a_number (list_too_short A h short) = omega arith

  -- 9 is told for a list that is too short alone, at line 0
  pub nine_is_told_for_a_list_alone : {line : ℕ} → Cause known s name name' told l 9 line
      → (net : Network) × (p : Border) × AcceptedSide known s net name name' p × (line ≡ 0) × (length l < length net.links)
  nine_is_told_for_a_list_alone c = by c refl
    where
      by : {k line : ℕ} → Cause known s name name' told l k line → k ≡ 9
          → (net : Network) × (p : Border) × AcceptedSide known s net name name' p × (line ≡ 0) × (length l < length net.links)
      by (of_the_first_step (of_the_sheet c)) e = absurd ((refusals_have_sheet_numbers (edition_of known s) s c).not_nine e)
      by (of_the_first_step (no_such_link r none)) e = absurd (omega arith)
      by (number_too_large A h) e = absurd (omega arith)
      by (list_too_short {net} {p} A h short) e = (net, p, A, refl, short)
