-- What judging tells, for every sheet and every plan: each number for its cause and for no other; an accepted plan is a plan that fits, with its total, and yes
-- exactly if no fitting plan, however finely cut, has a greater total. Document 02, Card 12, and 01 on a second text read with the sheet.
use Rattle.std.specs.Prelude.{true, ◌≡◌, ◌≢◌, ℕ, ◌*◌, ◌≤◌, ◌<◌, eqb}
use Rattle.std.proofs.Math.Path.{refl, ap}
use Rattle.std.proofs.Common.{◌∙◌, inl, inr}
use mathlib.Core.List.{List, []}
use native.Mathlib.Omega.{arith}
use Rattle.std.proofs.Math.Decide.{dec_le}
use borrow.Author.Tests.{le-leb, lt-leb, eqb-true, eq-eqb}
use Rattle.std.proofs.Math.ListN.{length}
use Rattle.lists.specs.Numbers.{look}
use Rattle.lists.specs.Sums.{cases, same?, pick_same, pick_other}
use Rattle.model.specs.Limits.{AMOUNT, PLANLINES, PLANBYTES}
use Rattle.model.specs.Flows.{Links, load, total}
use Rattle.model.specs.declared.Edition.{Edition}
use Rattle.theory_verdicts.specs.HandPlan.{entries, account, overloaded, largest_total}
use Rattle.theory_verdicts.specs.Accounts.{Lowest, Drawn}
use Rattle.theory_verdicts.proofs.Accounts.{no_entries, a_lowest_faulty_line_or_none, the_lowest_faulty_line_decides}
use Rattle.theory_verdicts.proofs.Accounts.{lines_without_a_fault_are_entered, all_entries_are_drawn, drawn_is_a_multiflow, entries_are_few, total_is_limited}
use Rattle.theory_verdicts.proofs.Loads.{an_overloaded_link_counts, without_an_overloaded_link_it_fits, what_fits_overloads_nothing}
use Rattle.theory_verdicts.proofs.Largest.{a_plan_has_the_largest_total_exactly_if_none_is_greater}
use Rattle.sheet.specs.Sheet.{Network, Read, refused, accepted, read_sheet, edition_of}
use Rattle.sheet.proofs.Answers.{refusals_have_sheet_numbers}
use Rattle.sheet.specs.SheetTheorem.{a_sheet_is_refused_for_its_cause, an_accepted_sheet_is_a_tree}
use Rattle.log_requests.specs.Requests.{lines_from, lines, requests, is_end}
use Rattle.log_requests.specs.RequestLaws.{Free}
use Rattle.log_requests.proofs.RequestLaws.{the_requests_can_be_asked, the_requests_open_free_pairs_only, as_many_requests_as_lines}
use Rattle.log_requests.proofs.Sheets.{an_accepted_sheet}
use Rattle.verdicts.specs.Outcome.{judged_as, verdict, judge_over, judge_read, judged}
use Rattle.verdicts.specs.Causes.{number_at, a_line_gets_a_number_just_for_its_cause, a_line_gets_0_just_where_no_cause_applies}
use Rattle.verdicts.specs.Told.{plan_drawn, Short, Clean, Accepted, JudgeTold, faulty_sheet, long_plan, faulty_line, accepted_plan, heavy_plan}

module _ (known : List Edition) (s plan : List ℕ) where
  module _ (net : Network) (e : read_sheet known s ≡ accepted net) where
    abbrev n : ℕ
    n = length net.names

    -- by what its lines come to
    over-short : (short : Short plan) → judged known s plan
        ≡ verdict net.links n (is_end net) net.capacities (account 1 [] (requests true s net.names net.links (is_end net) plan))
    unfolding judged judge_read judge_over
    over-short short = rw (e, le-leb _ _ short.bytes, le-leb _ _ short.few)

    as_many : length (requests true s net.names net.links (is_end net) plan) ≡ length (lines plan)
    as_many = as_many_requests_as_lines true s net.names net.links (is_end net) plan

    fault-told : Short plan → Lowest [] (requests true s net.names net.links (is_end net) plan) → JudgeTold known s plan
    unfolding verdict
    fault-told short w =
        let here : w.place < length (lines plan) = omega (arith, w.here, as_many) in
        let k = number_at s net plan w.place in
        faulty_line net (an_accepted_sheet known s net e) short w.place k here
        ((a_line_gets_a_number_just_for_its_cause s net plan w.place here k w.some).0 refl)
        (λ q l. (a_line_gets_0_just_where_no_cause_applies s net plan q (omega arith)).0 (w.none_before q l))
        (over-short short
        ∙ ap (verdict net.links n (is_end net) net.capacities) (the_lowest_faulty_line_decides 1 [] _ w.place w.here w.some w.none_before))

    -- without a faulty line
    module _ (short : Short plan) (h : (p : ℕ) → p < length (requests true s net.names net.links (is_end net) plan) → number_at s net plan p ≡ 0) where
      clean : Clean s net plan
      clean p l = (a_line_gets_0_just_where_no_cause_applies s net plan p l).0 (h p (omega (arith, as_many)))

      entered : judged known s plan ≡ verdict net.links n (is_end net) net.capacities (entries (plan_drawn s net plan))
      entered = over-short short ∙ ap (verdict net.links n (is_end net) net.capacities) (lines_without_a_fault_are_entered 1 [] _ h)

      are-drawn : Drawn n (Free net.links (is_end net)) (plan_drawn s net plan)
      are-drawn = all_entries_are_drawn [] (no_entries n (Free net.links (is_end net))) (requests true s net.names net.links (is_end net) plan)
          (the_requests_can_be_asked true s net.names net.links (is_end net) plan)
          (the_requests_open_free_pairs_only true s net.names net.links (is_end net) plan) h

      abbrev loaded : ℕ
      loaded = overloaded net.links (look net.capacities) (plan_drawn s net plan)

      heavy-told : loaded ≢ 0 → JudgeTold known s plan
      unfolding verdict
      heavy-told d = heavy_plan net (an_accepted_sheet known s net e) short clean
          ((an_overloaded_link_counts net.links (look net.capacities) (plan_drawn s net plan)).0 d) (entered ∙ pick_other d _ _)

      abbrev most : ℕ
      most = largest_total net.links n (is_end net) net.capacities

      told-as : loaded ≡ 0 → judged known s plan ≡ judged_as (total (plan_drawn s net plan)) (eqb (total (plan_drawn s net plan)) most)
      unfolding verdict
      told-as z = entered ∙ pick_same z _ _

      small-total : total (plan_drawn s net plan) ≤ PLANLINES * AMOUNT
      small-total = omega (
        arith,
        total_is_limited (plan_drawn s net plan) are-drawn.limited,
        entries_are_few [] (requests true s net.names net.links (is_end net) plan),
        as_many,
        short.few,
      )

      is-accepted : loaded ≡ 0 → Accepted net (plan_drawn s net plan) (judged known s plan)
      is-accepted z =
          let es = plan_drawn s net plan in
          let T = (an_accepted_sheet_is_a_tree (edition_of known s) s net e).tree in
          let m = drawn_is_a_multiflow net.links n (is_end net) T.ends es are-drawn in
          let f = without_an_overloaded_link_it_fits net.links (look net.capacities) es z in
          let law = a_plan_has_the_largest_total_exactly_if_none_is_greater T (is_end net) net.capacities es m f in
          rw (told-as z) (record {
            judged-told = refl;
            text-told = refl;
            number-told = refl;
            line-told = refl;
            plan = m;
            fits = f;
            once = are-drawn.once;
            total-told = refl;
            small = small-total;
            yes = (λ y. law.0 (eqb-true (total es) most y), λ none. eq-eqb (total es) most (law.1 none));
          })

      clean-told : JudgeTold known s plan
      clean-told = same? loaded 0
          (λ z. accepted_plan net (an_accepted_sheet known s net e) short clean
          (λ o. (an_overloaded_link_counts net.links (look net.capacities) (plan_drawn s net plan)).1 o z) (is-accepted z))
          heavy-told

    short-told : Short plan → JudgeTold known s plan
    short-told short = elim (a_lowest_faulty_line_or_none [] (requests true s net.names net.links (is_end net) plan)) [
      | inl w ↦ fault-told short w
      | inr h ↦ clean-told short h
    ]

    over-plan : JudgeTold known s plan
    unfolding judged judge_read judge_over
    over-plan = cases (dec_le (length plan) PLANBYTES)
        (λ g. cases (dec_le (length (lines plan)) PLANLINES)
        (λ h. short-told (record { bytes = g; few = h }))
        (λ h. let i : PLANLINES < length (lines plan) = omega arith in
        long_plan net (an_accepted_sheet known s net e) (inr i) (rw (e, le-leb _ _ g, lt-leb _ _ i))))
        (λ g. let i : PLANBYTES < length plan = omega arith in
        long_plan net (an_accepted_sheet known s net e) (inl i) (rw (e, lt-leb _ _ i)))

  pub the_verdict_is_told_or_its_cause : JudgeTold known s plan
  unfolding judged judge_read
  the_verdict_is_told_or_its_cause = by (read_sheet known s) refl
    where
      by : (r : Read) → read_sheet known s ≡ r → JudgeTold known s plan
      by (refused k line) e =
          let c = (a_sheet_is_refused_for_its_cause (edition_of known s) s k line).0 e in
          faulty_sheet k line c (refusals_have_sheet_numbers (edition_of known s) s c) (rw e)
      by (accepted net) e = over-plan net e

nothing-is-loaded : (ls : Links) (c : ℕ → ℕ) → overloaded ls c [] ≡ 0
unfolding load
nothing-is-loaded ls c = what_fits_overloads_nothing ls c [] (λ j l. omega arith)

-- a plan of 0 bytes has no lines: it is accepted over every accepted sheet, with a total of 0, and yes exactly if the largest total is 0
pub a_plan_of_0_bytes_is_accepted : (known : List Edition) (s : List ℕ) (net : Network) → read_sheet known s ≡ accepted net
    → judged known s [] ≡ judged_as 0 (eqb 0 (largest_total net.links (length net.names) (is_end net) net.capacities))
unfolding judged judge_read judge_over lines lines_from requests account verdict total
a_plan_of_0_bytes_is_accepted known s net e = rw e (pick_same (nothing-is-loaded net.links (look net.capacities)) _ _)
