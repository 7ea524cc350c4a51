-- What planning tells and what every report says is what is asked: the outcomes by the cases of planning, the report by what it says (`planSays`),
-- the line of a refusal by its fields.
use Rattle.std.specs.Prelude.{◌≡◌, refl, List, ℕ, ◌≤◌, ◌<◌, length}
use Rattle.std.proofs.Math.Path.{sym}
use Rattle.std.proofs.Common.{ap, ◌∙◌, arith}
use Rattle.model.specs.Limits.{REPORT}
use Rattle.model.specs.Edition.{editions, largest}
use Rattle.lists.specs.Numbers.{look}
use Rattle.model.specs.Flows.{sites}
use Rattle.model.specs.Text.{bytes}
use Rattle.model.specs.declared.Edition.{Edition}
use Rattle.theory_trees.proofs.TerminalCuts.{cut_sizes_sum_to_the_terminals}
use Rattle.theory_trees.proofs.Bounds.{what_fits_fits_the_balanced, a_full_multiflow_has_the_greatest_total}
use Rattle.theory_walk.proofs.PartsTheorem.{pair_list_of_parts_ascends, pair_list_of_parts_lower_first}
use Rattle.sheet_kinds.specs.LineKinds.{field}
use Rattle.sheet.specs.Sheet.{Network, Read, refused, accepted, read_sheet, edition_of}
use Rattle.sheet.specs.OwnLines.{a_link_stands_on_its_own_line}
use Rattle.sheet.proofs.Editions.{a_line_at_fault_is_within_the_limit}
use Rattle.sheet.specs.SheetTheorem.{IsNetwork, an_accepted_sheet_is_a_tree, a_sheet_is_refused_for_its_cause}
use Rattle.report.specs.Report.{report, refusal_line}
use Rattle.planner.specs.Outcome.{number, Reporter, planned, Answer, answered_by}
use Rattle.planner.specs.Figures.{Figures, halves, Showable, figures_have_sound_pairs, trimmed_are_greatest, halves_can_be_shown}
use Rattle.demands.specs.Printed.{site_count, is_end, read_report, printed_by, bytes_printed}
use Rattle.demands.specs.Asked.{Demand1, ShowsSheet, SizesAsGiven, Demand2, InOrder, Demand3, IsReport, IsRefusal}
use Rattle.demands.specs.Asked.{faulty_sheet, long-report, full_report, Prints, a_full_report, a-refusal}
use Rattle.demands.specs.Plans.{full_plan, trimmed_is_greatest, full_plan_is_sound, full_plan_fits}
use Rattle.demands.specs.Records.{refusal-line, refusal-fields, refusal-at}
use Rattle.demands.proofs.Records.{refusal-number}
use Rattle.demands.specs.ReadBack.{figures_say, plan_says}
use Rattle.demands.proofs.ReadBack.{report_read_back}
use Rattle.demands.proofs.Spelling.{the_report_spells_names_as_given}
use Rattle.demands.specs.Sets.{set_by, TellsSets, sizes_summed, told_sets_are_owned, owners_tell_the_cuts}
use Rattle.demands.specs.Sets.{cut_sizes_are_set_sizes, cut_counts_are_set_counts}
use Rattle.demands.specs.Sets.{an_owner_is_told_for_each_site, owners_are_told_or_dashes, a_dash_tells_no_owner, a_dash_tells_that_no_cut_holds_the_site}
use Rattle.demands.specs.Refusals.{sheets_are_refused_with_a_sheet_number}
use Rattle.demands.specs.Outcomes.{sheet_refused, report_too_long, report-delivered, the_report_is_told}
use Rattle.demands.specs.Outcomes.{fronted, the_front_is_printed, report-answered, refusal-answered, a_refusal_is_small}
use Rattle.demands.specs.Met.{a_set_is_told_for_each_end, accepted_without_cause}

-- ---- the line of a refusal

the_line_is_a_refusal : (known : List Edition) (s : List ℕ) (k l : ℕ) → read_sheet known s ≡ refused k l → IsRefusal known s (refusal_line k l)
the_line_is_a_refusal known s k l e =
    let told = sheets_are_refused_with_a_sheet_number known s k l e in
    let cause = (a_sheet_is_refused_for_its_cause (edition_of known s) s k l).0 e in
    record {
      one_line = ap length (refusal-line k l);
      three-fields = ap length (refusal-fields k l);
      heading = ap (λ f. field f 0) (refusal-fields k l);
      cause = rw (refusal-number k l, refusal-at k l) cause;
      of_the_table = rw (refusal-number k l) told;
      whole = rw (refusal-number k l, refusal-at k l);
    }

-- ---- what the program prints
-- with a buffer of REPORT bytes or more: a report or the line of a refusal, and as many bytes as the answer tells; for any report that fits and is full
module _ (text : Reporter) (Full : List Edition → List ℕ → List ℕ → Type 0) (s b : List ℕ) (room : REPORT ≤ length b)
    (full : (net : Network) → read_sheet editions s ≡ accepted net → Full editions s (text s net) × (length (text s net) ≤ REPORT)) where
  abbrev Said : Answer → Type 0
  Said a = Prints Full s (bytes_printed a) × (length (bytes_printed a) ≡ a.length)

  front_said : (r : List ℕ) → Prints Full s r → Said (fronted b r)
  front_said r h = rw (the_front_is_printed b r) (h, refl)

  pub the_answer_is_asked_for : Said (answered_by text editions s b)
  the_answer_is_asked_for = by (read_sheet editions s) refl
    where
      by : (r : Read) → read_sheet editions s ≡ r → Said (answered_by text editions s b)
      by (refused k l) e =
          let number = sheets_are_refused_with_a_sheet_number editions s k l e in
          let cause = (a_sheet_is_refused_for_its_cause (edition_of editions s) s k l).0 e in
          let small = a_refusal_is_small k l number.known (a_line_at_fault_is_within_the_limit s cause) in
          rw (refusal-answered text editions s b k l e (omega arith)) (front_said (refusal_line k l) (a-refusal (the_line_is_a_refusal editions s k l e)))
      by (accepted net) e =
          let small = (full net e).1 in
          rw (report-answered text editions s b net e (omega arith))
          (front_said (text s net) (a_full_report (accepted_without_cause editions s net e) (full net e).0))

module _ (text : Reporter) (known : List Edition) (s b : List ℕ) where
  pub a_refused_sheet_meets_demand_1 : (k l : ℕ) → read_sheet known s ≡ refused k l → Demand1 text known s b
  a_refused_sheet_meets_demand_1 k l e =
      faulty_sheet k l e ((a_sheet_is_refused_for_its_cause (edition_of known s) s k l).0 e) (sheets_are_refused_with_a_sheet_number known s k l e)
      (rw (sheet_refused text known s b k l e) (record { number-told = refl; line-told = refl; length-told = refl; buffer_kept = refl }))

  module _ (net : Network) (read : read_sheet known s ≡ accepted net) where
    pub a_long_report_meets_demand_1 : length b < length (text s net) → Demand1 text known s b
    a_long_report_meets_demand_1 h = long-report (accepted_without_cause known s net read) net read (omega arith)
        (rw (report_too_long text known s b net read h) (record { number-told = refl; line-told = refl; length-told = refl; buffer_kept = refl }))

    pub a_delivered_report_meets_demand_1 : length (text s net) ≤ length b → Demand1 text known s b
    a_delivered_report_meets_demand_1 h = full_report (accepted_without_cause known s net read) net read (omega arith)
        (rw (report-delivered text known s b net read h) (record { number-told = refl; line-told = refl; length-told = refl; buffer_filled = refl }))

pub figures_show_sheet : (net : Network) (f : Figures) → ShowsSheet f.word net (figures_say net f)
unfolding figures_say
figures_show_sheet net f = record { heading = refl; links = refl; sizes = refl; sites-shown = refl }

pub figures_show_usable_sizes : (known : List Edition) (s : List ℕ) (net : Network) → read_sheet known s ≡ accepted net → (f : Figures)
    → SizesAsGiven known s net (figures_say net f)
unfolding figures_say
figures_show_usable_sizes known s net read f = a_link_stands_on_its_own_line (edition_of known s) s net read

module _ {ed : Edition} {s : List ℕ} {net : Network} (N : IsNetwork ed s net) where
  pub figures_are_in_order : (f : Figures) → Showable net f → InOrder net (figures_say net f)
  unfolding figures_say
  figures_are_in_order f h = record {
    positive = (figures_have_sound_pairs net N.tree f h).positive;
    lower-first = pair_list_of_parts_lower_first N.tree (is_end net) (look f.shown) h.balanced;
    ascending = pair_list_of_parts_ascends N.tree (is_end net) (look f.shown) h.balanced;
    owner_of_each_site = an_owner_is_told_for_each_site (site_count net) f.owner;
    dash-or-end = λ x q. owners_are_told_or_dashes (site_count net) f.owner x q (is_end net) (h.owned x q);
    dash-is-none = a_dash_tells_no_owner (site_count net) f.owner;
  }

  -- ---- the report in halves

  pub plan_shows_sheet : ShowsSheet (bytes "plan") net (plan_says net)
  plan_shows_sheet = figures_show_sheet net (halves net)

  halves_tell_sets : TellsSets net.links (site_count net) (is_end net) (look net.capacities) (halves net)
  halves_tell_sets =
      let g = trimmed_are_greatest net N.tree in
      record { sized = cut_sizes_are_set_sizes N.tree (is_end net) g; counted = cut_counts_are_set_counts N.tree (is_end net) g }

  pub plan_meets_demand_2 : Demand2 net (plan_says net)
  unfolding figures_say
  plan_meets_demand_2 =
      let T = N.tree in
      let ls = net.links in
      let n = site_count net in
      let end = is_end net in
      let plan = full_plan T end net.capacities in
      let greatest = trimmed_is_greatest T end net.capacities in
      let full = full_plan_is_sound T end net.capacities in
      record {
        largest =
            λ fs h k _ f. a_full_multiflow_has_the_greatest_total T end greatest plan full.routes 2 full.loads fs h k f;
        printed_plan = full.routes;
        once = full.once;
        printed_plan_fits = full_plan_fits T end net.capacities;
        reached = refl;
        few = full.few;
        counted = refl;
        set-members = owners_tell_the_cuts T end greatest;
        dash-without-set = a_dash_tells_that_no_cut_holds_the_site T end greatest;
        set_of_each_end = a_set_is_told_for_each_end net (halves net);
        size_of_each_set = told_sets_are_owned T end (look net.capacities) (halves net) halves_tell_sets;
        sizes-sum = sizes_summed end (set_by (halves net)) (sites n) ∙ cut_sizes_sum_to_the_terminals T end greatest ∙ sym full.sums;
      }

  pub plan_is_in_order : InOrder net (plan_says net)
  plan_is_in_order = figures_are_in_order (halves net) (halves_can_be_shown net N.tree)

  pub plan_meets_demand_3 : Demand3 net (plan_says net)
  unfolding figures_say
  plan_meets_demand_3 =
      let T = N.tree in
      let end = is_end net in
      let full = full_plan_is_sound T end net.capacities in
      record {
        bounded = λ fs h k _ f. what_fits_fits_the_balanced T end (trimmed_is_greatest T end net.capacities) fs h k f;
        printed_plan = full.routes;
        printed_plan_fits = full_plan_fits T end net.capacities;
        filled = full.loads;
        trimmed = refl;
      }

pub the_report_is_full : (known : List Edition) (s : List ℕ) (net : Network) → read_sheet known s ≡ accepted net → IsReport known s (report s net)
the_report_is_full known s net read =
    let N = an_accepted_sheet_is_a_tree (edition_of known s) s net read in
    let said = report_read_back N in
    record {
      net = net;
      read = read;
      network = N;
      whole = refl;
      shows_the_sheet = rw said (plan_shows_sheet N);
      sizes = rw said (figures_show_usable_sizes known s net read (halves net));
      names = the_report_spells_names_as_given known s net read;
      meets_demand_2 = rw said (plan_meets_demand_2 N);
      is_in_order = rw said (plan_is_in_order N);
      meets_demand_3 = rw said (plan_meets_demand_3 N);
    }

-- where planning tells success, what is printed is the plan
pub the_plan_is_printed : (known : List Edition) (s b : List ℕ) (net : Network) → read_sheet known s ≡ accepted net → number (planned known s b).outcome ≡ 0
    → printed_by s net (planned known s b) ≡ plan_says net
the_plan_is_printed known s b net read success =
    ap (read_report s net) (the_report_is_told report known s b net read success)
    ∙ report_read_back (an_accepted_sheet_is_a_tree (edition_of known s) s net read)
