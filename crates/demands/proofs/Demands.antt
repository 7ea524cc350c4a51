-- The three demands hold: `demand-1`, `demand-2`, `demand-3` and the theorems beside them, over the bytes that planning leaves in the buffer.
-- `a-success-is-a-full-report` has all that holds of a report; `the-program-prints-a-full-report-or-the-cause` is of the bytes that the program prints.
-- What they ask is stated in `Asked`, a page of definitions without proofs; planning (`planned`) and the program's answer (`answered`) are in `Outcome`.
use Rattle.std.specs.Prelude.{◌≡◌, refl, ◌↔◌, List, ℕ, ◌≤◌, ◌<◌, length}
use Rattle.std.proofs.Common.{sym, ap, ◌∙◌, arith}
use Rattle.std.proofs.Math.Decide.{dec_le}
use Rattle.model.specs.Limits.{REPORT}
use Rattle.model.specs.Edition.{editions}
use Rattle.lists.specs.Numbers.{look}
use Rattle.model.specs.Flows.{Links, Tree, Fits}
use Rattle.model.specs.Trimming.{balanced}
use Rattle.model.specs.Text.{bytes}
use Rattle.model.specs.declared.Edition.{Edition}
use Rattle.model.specs.declared.Pair.{Pair}
use Rattle.lists.specs.Sums.{cases}
use Rattle.theory_trees.proofs.Greatest.{balanced-again}
use Rattle.sheet.proofs.Editions.{an_accepted_sheet_is_within_the_largest}
use Rattle.sheet.specs.Sheet.{Network, Read, refused, accepted, read_sheet, edition_of}
use Rattle.sheet.specs.SheetTheorem.{IsNetwork, an_accepted_sheet_is_a_tree}
use Rattle.report.specs.Report.{report}
use Rattle.planner.specs.Small.{a_report_is_small}
use Rattle.planner.specs.Outcome.{number, Reporter, planned_by, planned, answered}
use Rattle.demands.specs.Printed.{IsPlan, site_count, is_end, bytes_told, printed_by, printed_trimmed, bytes_printed}
pub use Rattle.demands.specs.Asked.{Demand1, faulty_sheet, long-report, full_report, ShowsSheet, Demand2, InOrder, Demand3, IsReport}
pub use Rattle.demands.specs.Asked.{Refused, FullReport, WithoutCause, IsRefusal, Prints, a_full_report, a-refusal}
use Rattle.demands.proofs.MetLaws.{a_refused_sheet_meets_demand_1, a_long_report_meets_demand_1}
use Rattle.demands.proofs.MetLaws.{a_delivered_report_meets_demand_1, plan_shows_sheet, plan_meets_demand_2, plan_is_in_order, plan_meets_demand_3}
use Rattle.demands.proofs.MetLaws.{the_answer_is_asked_for}
use Rattle.demands.proofs.MetLaws.{the_report_is_full, the_plan_is_printed}
use Rattle.demands.specs.Plans.{same_plans_fit_iff_trimmed_agree}
use Rattle.demands.specs.Outcomes.{report_too_long, report-delivered, the_report_is_told}

-- ---- demand 1

-- with the text of either report
module _ (text : Reporter) (known : List Edition) (s b : List ℕ) where
  -- for every edition, sheet and buffer: a sheet is refused for its cause, and every other sheet gets a full report, or 9 if that is longer than the buffer
  pub demand_1 : Demand1 text known s b
  demand_1 = by (read_sheet known s) refl
    where
      by : (r : Read) → read_sheet known s ≡ r → Demand1 text known s b
      by (refused k l) e = a_refused_sheet_meets_demand_1 text known s b k l e
      by (accepted net) e = cases (dec_le (length (text s net)) (length b))
          (λ h. a_delivered_report_meets_demand_1 text known s b net e h)
          (λ h. a_long_report_meets_demand_1 text known s b net e (omega arith))

  -- 9 is told exactly if the sheet is accepted and its report is longer than the buffer
  pub nine_is_told_exactly_for_a_long_report : (number (planned_by text known s b).outcome ≡ 9)
      ↔ ((net : Network) × (read_sheet known s ≡ accepted net) × (length b < length (text s net)))
  nine_is_told_exactly_for_a_long_report = (
    λ nine. elim demand_1 [
      | faulty_sheet k l e c known r ↦ absurd (known.not_nine (omega (arith, r.number-told)))
      | long-report c net e h r ↦ (net, e, h)
      | full_report c net e h r ↦ absurd (omega (arith, r.number-told))
    ],
    λ h. ap (λ p. number p.outcome) (report_too_long text known s b h.0 h.1 h.2),
  )

  -- 0 is told exactly if the sheet is accepted and its report is no longer than the buffer
  pub zero_is_told_exactly_for_a_full_report : (number (planned_by text known s b).outcome ≡ 0)
      ↔ ((net : Network) × (read_sheet known s ≡ accepted net) × (length (text s net) ≤ length b))
  zero_is_told_exactly_for_a_full_report = (
    λ zero-told. elim demand_1 [
      | faulty_sheet k l e c known r ↦ absurd (omega (arith, r.number-told))
      | long-report c net e h r ↦ absurd (omega (arith, r.number-told))
      | full_report c net e h r ↦ (net, e, h)
    ],
    λ h. ap (λ p. number p.outcome) (report-delivered text known s b h.0 h.1 h.2),
  )

-- every report on a sheet of edition 1 fits REPORT bytes, 65,536
pub a_report_fits_65536_bytes : (s : List ℕ) (net : Network) → read_sheet editions s ≡ accepted net → length (report s net) ≤ REPORT
a_report_fits_65536_bytes s net read = a_report_is_small (an_accepted_sheet_is_within_the_largest s net read)

-- ---- demand 3, of two lists of sizes

-- whichever two lists of sizes the links of one tree are given: the plans that fit the first are the plans that fit the second, in whatever
-- fraction of a circuit, exactly if their trimmed sizes agree on every link; for any ends
pub the_same_plans_fit_exactly_if_the_trimmed_sizes_agree : {ls : Links} {n : ℕ} → Tree ls n → (end : ℕ → ℕ) (c d : List ℕ)
    → ((fs : List Pair) → IsPlan ls n end fs → (k : ℕ) → 1 ≤ k → Fits ls k (look c) fs ↔ Fits ls k (look d) fs)
    ↔ ((j : ℕ) → j < length ls → look (balanced ls n end c) j ≡ look (balanced ls n end d) j)
the_same_plans_fit_exactly_if_the_trimmed_sizes_agree = same_plans_fit_iff_trimmed_agree

-- trimming, handed its own answer as sizes, gives that answer back; for any ends
pub trimming_gives_its_own_answer_back : {ls : Links} {n : ℕ} → Tree ls n → (end : ℕ → ℕ) (c : List ℕ)
    → balanced ls n end (balanced ls n end c) ≡ balanced ls n end c
trimming_gives_its_own_answer_back = balanced-again

-- ---- what is told and what is printed

-- for every edition, sheet and buffer: where planning tells success, the bytes told are the full report
pub a_success_is_a_full_report : (known : List Edition) (s b : List ℕ) → number (planned known s b).outcome ≡ 0
    → IsReport known s (bytes_told (planned known s b))
a_success_is_a_full_report known s b success =
    let h = (zero_is_told_exactly_for_a_full_report report known s b).0 success in
    rw (the_report_is_told report known s b h.0 h.1 success) (the_report_is_full known s h.0 h.1)

-- its parts, for a network that is known
module _ (known : List Edition) (s b : List ℕ) (net : Network) (read : read_sheet known s ≡ accepted net)
    (success : number (planned known s b).outcome ≡ 0) where
  given : IsNetwork (edition_of known s) s net
  given = an_accepted_sheet_is_a_tree (edition_of known s) s net read

  pub the_report_shows_the_sheet : ShowsSheet (bytes "plan") net (printed_by s net (planned known s b))
  the_report_shows_the_sheet = rw (the_plan_is_printed known s b net read success) (plan_shows_sheet given)

  pub demand_2 : Demand2 net (printed_by s net (planned known s b))
  demand_2 = rw (the_plan_is_printed known s b net read success) (plan_meets_demand_2 given)

  pub the_report_is_in_order : InOrder net (printed_by s net (planned known s b))
  the_report_is_in_order = rw (the_plan_is_printed known s b net read success) (plan_is_in_order given)

  pub demand_3 : Demand3 net (printed_by s net (planned known s b))
  demand_3 = rw (the_plan_is_printed known s b net read success) (plan_meets_demand_3 given)

-- two accepted sheets of one tree with the same marks, their reports printed: the plans that fit the usable sizes of the first are those that fit the
-- usable sizes of the second exactly if the printed trimmed sizes agree on every link (02, Card 5: a fact about usable sizes)
module _ (known : List Edition) (s b t d : List ℕ) (net other : Network) (read : read_sheet known s ≡ accepted net)
    (read-other : read_sheet known t ≡ accepted other)
    (success : number (planned known s b).outcome ≡ 0) (success-other : number (planned known t d).outcome ≡ 0)
    (links : other.links ≡ net.links) (sites : site_count other ≡ site_count net) (marks : other.marks ≡ net.marks) where
  pub two_sheets_of_a_tree_admit_the_same_plans_exactly_if_the_printed_trimmed_sizes_agree :
      ((fs : List Pair) → IsPlan net.links (site_count net) (is_end net) fs → (k : ℕ) → 1 ≤ k
      → Fits net.links k (look net.capacities) fs ↔ Fits net.links k (look other.capacities) fs)
      ↔ ((j : ℕ) → j < length net.links
      → printed_trimmed (printed_by s net (planned known s b)) j ≡ printed_trimmed (printed_by t other (planned known t d)) j)
  two_sheets_of_a_tree_admit_the_same_plans_exactly_if_the_printed_trimmed_sizes_agree =
      let T = (an_accepted_sheet_is_a_tree (edition_of known s) s net read).tree in
      let own = (demand_3 known s b net read success).trimmed in
      let same : (printed_by t other (planned known t d)).shown ≡ balanced net.links (site_count net) (is_end net) other.capacities
      = (demand_3 known t d other read-other success-other).trimmed ∙ rw (links, sites, marks) in
      let law = the_same_plans_fit_exactly_if_the_trimmed_sizes_agree T (is_end net) net.capacities other.capacities in (
        λ plans j l. ap (λ t. look t j) own ∙ law.0 plans j l ∙ sym (ap (λ t. look t j) same),
        λ agree. law.1 (λ j l. sym (ap (λ t. look t j) own) ∙ agree j l ∙ ap (λ t. look t j) same),
      )

the_report_is_full_and_fits : (s : List ℕ) (net : Network) → read_sheet editions s ≡ accepted net
    → IsReport editions s (report s net) × (length (report s net) ≤ REPORT)
the_report_is_full_and_fits s net read = (the_report_is_full editions s net read, a_report_fits_65536_bytes s net read)

-- with a buffer of REPORT bytes or more: the program prints the full report of a sheet, or the line of its refusal for its cause, and never 9
pub the_program_prints_a_full_report_or_the_cause : (s b : List ℕ) → REPORT ≤ length b → Prints IsReport s (bytes_printed (answered editions s b))
the_program_prints_a_full_report_or_the_cause s b room = (the_answer_is_asked_for report IsReport s b room (the_report_is_full_and_fits s)).0

-- and prints as many bytes as the answer tells
pub as_many_bytes_are_printed_as_told : (s b : List ℕ) → REPORT ≤ length b
    → length (bytes_printed (answered editions s b)) ≡ (answered editions s b).length
as_many_bytes_are_printed_as_told s b room = (the_answer_is_asked_for report IsReport s b room (the_report_is_full_and_fits s)).1
