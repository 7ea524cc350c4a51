-- Card 2 holds: what the report headed `whole` promises, over the bytes that planning leaves in the buffer and over those that the program `whole` prints.
-- `a-whole-success-is-a-full-report` has all that holds of such a report. What is asked is stated in `AskedWhole`, a page of definitions without proofs.
-- Refusals, buffers, the length and 9 are as for the report in halves: `demand-1` and the theorems beside it (`Demands`) hold of either report.
use Rattle.std.specs.Prelude.{◌≡◌, List, ℕ, ◌+◌, ◌≤◌, length}
use Rattle.lists.specs.Numbers.{look}
use Rattle.model.specs.Limits.{REPORT}
use Rattle.model.specs.Edition.{editions}
use Rattle.model.specs.Flows.{total}
use Rattle.model.specs.Whole.{EndSets, set_sizes, odd_pieces}
use Rattle.model.specs.declared.Edition.{Edition}
use Rattle.model.specs.declared.Pair.{Pair}
use Rattle.sheet.proofs.Editions.{an_accepted_sheet_is_within_the_largest}
use Rattle.sheet.specs.Sheet.{Network, accepted, read_sheet, edition_of}
use Rattle.sheet.specs.SheetTheorem.{an_accepted_sheet_is_a_tree}
use Rattle.report.specs.Report.{whole_report}
use Rattle.planner.specs.Small.{a_whole_report_is_small}
use Rattle.planner.specs.Outcome.{number, planned_whole, answered_whole}
use Rattle.demands.specs.Printed.{site_count, is_end, bytes_told, bytes_printed}
use Rattle.demands.specs.Asked.{Prints}
pub use Rattle.demands.specs.AskedWhole.{FittingWhole, LargestPlan, PrintedSets, IsWholeReport}
use Rattle.demands.specs.Outcomes.{the_report_is_told}
use Rattle.demands.proofs.MetLaws.{the_answer_is_asked_for}
use Rattle.demands.proofs.Demands.{zero_is_told_exactly_for_a_full_report}
use Rattle.demands.proofs.WholeMet.{no_whole_plan_passes_any_sets}
use Rattle.demands.proofs.WholeMet.{the_whole_report_is_full}

-- every report in whole circuits on a sheet of edition 1 fits REPORT bytes, 65,536
pub a_whole_report_fits_65536_bytes : (s : List ℕ) (net : Network) → read_sheet editions s ≡ accepted net → length (whole_report s net) ≤ REPORT
a_whole_report_fits_65536_bytes s net read = a_whole_report_is_small (an_accepted_sheet_is_within_the_largest s net read)

-- of every accepted sheet, whatever end sets and whatever fitting plan in whole circuits: its total is at most the set sizes less the odd pieces
pub no_choice_of_sets_does_better : (known : List Edition) (s : List ℕ) (net : Network) → read_sheet known s ≡ accepted net
    → (owner : ℕ → ℕ) → EndSets (site_count net) (is_end net) owner → (fs : List Pair) → FittingWhole net fs
    → total fs + odd_pieces net.links (site_count net) (look net.capacities) owner
    ≤ set_sizes net.links (site_count net) (is_end net) (look net.capacities) owner
no_choice_of_sets_does_better known s net read = no_whole_plan_passes_any_sets net (an_accepted_sheet_is_a_tree (edition_of known s) s net read).tree

-- for every edition, sheet and buffer: where planning in whole circuits tells success, the bytes told are the full report
pub a_whole_success_is_a_full_report : (known : List Edition) (s b : List ℕ) → number (planned_whole known s b).outcome ≡ 0
    → IsWholeReport known s (bytes_told (planned_whole known s b))
a_whole_success_is_a_full_report known s b success =
    let h = (zero_is_told_exactly_for_a_full_report whole_report known s b).0 success in
    rw (the_report_is_told whole_report known s b h.0 h.1 success) (the_whole_report_is_full known s h.0 h.1)

the_whole_report_is_full_and_fits : (s : List ℕ) (net : Network) → read_sheet editions s ≡ accepted net
    → IsWholeReport editions s (whole_report s net) × (length (whole_report s net) ≤ REPORT)
the_whole_report_is_full_and_fits s net read = (the_whole_report_is_full editions s net read, a_whole_report_fits_65536_bytes s net read)

-- with a buffer of REPORT bytes or more: the program prints the full report of a sheet, or the line of its refusal for its cause, and never 9
pub the_whole_program_prints_a_full_report_or_the_cause : (s b : List ℕ) → REPORT ≤ length b
    → Prints IsWholeReport s (bytes_printed (answered_whole editions s b))
the_whole_program_prints_a_full_report_or_the_cause s b room =
    (the_answer_is_asked_for whole_report IsWholeReport s b room (the_whole_report_is_full_and_fits s)).0

-- and prints as many bytes as the answer tells
pub the_whole_program_prints_as_many_bytes_as_told : (s b : List ℕ) → REPORT ≤ length b
    → length (bytes_printed (answered_whole editions s b)) ≡ (answered_whole editions s b).length
the_whole_program_prints_as_many_bytes_as_told s b room =
    (the_answer_is_asked_for whole_report IsWholeReport s b room (the_whole_report_is_full_and_fits s)).1
