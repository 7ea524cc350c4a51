-- Card 14 holds: two accepted sheets that hold the same records in different orders get reports headed `plan` that agree in the total, each link's trimmed
-- size, each site's end set and each set size, and reports headed `whole` that agree in the total. Marks and reserves are parts of the records.
-- Pairs may differ, since the walk goes by number. What is said of the reports stands in `SameReports`, what the same records are in `SameRecords`. The
-- sheets may even be of different editions.
use Rattle.std.specs.Prelude.{List, ◌≡◌, refl, ℕ, ◌-◌, ◌≤◌, length}
use Rattle.std.proofs.Common.{sym, ap, ◌∙◌, arith}
use Rattle.model.specs.Limits.{REPORT}
use Rattle.model.specs.Edition.{editions}
use Rattle.model.specs.Flows.{total}
use Rattle.model.specs.declared.Edition.{Edition}
use Rattle.model.specs.declared.Sizing.TheVariants.{Reserved}
use Rattle.text_records.specs.Records.{first_line}
use Rattle.theory_shuffled.specs.ShuffledLaws.{shuffled_covers, shuffled_is_covered}
use Rattle.sheet_kinds.specs.LineKinds.{field}
use Rattle.sheet.specs.Sheet.{Network, accepted, read_sheet, edition_of}
use Rattle.sheet.proofs.Editions.{a_known_edition_is_of_networks}
use Rattle.sheet.specs.SheetTheorem.{IsNetwork, an_accepted_sheet_is_a_tree}
use Rattle.sheet_records.specs.SameRecords.{SameRecord, SameRecords}
use Rattle.sheet_records.proofs.RecordLaws.{record_turned}
use Rattle.sheet_records.proofs.LinesRead.{an_accepted_sheet_holds_its_records}
use Rattle.report.specs.Report.{decimal, report_of, report, whole_report}
use Rattle.planner.specs.Outcome.{number, Reporter, planned, planned_whole, answered_by, answered, answered_whole}
use Rattle.planner.specs.Figures.{Figures, halves, wholes, pairs_by, plan_showing, Showable, the_report_shows_halves}
use Rattle.planner.specs.Figures.{the_whole_report_shows_wholes, halves_can_be_shown}
use Rattle.planner.specs.WholeFigures.{wholes_can_be_shown}
use Rattle.demands.specs.Printed.{bytes_told, bytes_printed}
use Rattle.demands.specs.Records.{first-line}
use Rattle.demands.specs.Names.{site-name-is-plain}
use Rattle.demands.specs.Outcomes.{the_report_is_told, report-answered, the_front_is_printed}
use Rattle.demands.proofs.Demands.{zero_is_told_exactly_for_a_full_report, a_report_fits_65536_bytes}
use Rattle.demands.proofs.WholeDemands.{a_whole_report_fits_65536_bytes}
use Rattle.shuffled.specs.SameReports.{SameTotal, SameReports}
use Rattle.shuffled.specs.Networks.{Among}
use Rattle.shuffled.proofs.Networks.{covered-is-among, among-is-there}
use Rattle.shuffled.proofs.Agree.{the_halves_agree, the_whole_totals_agree}
use Rattle.shuffled.proofs.Lines.{link_lines_are_shuffled, site_lines_are_shuffled, set_lines_are_shuffled}

-- the total in line 1 of a report that shows figures
total-told : {ed : Edition} {s : List ℕ} {net : Network} → IsNetwork ed s net → (f : Figures) → Showable net f
    → field (first_line (report_of (plan_showing net s f))) 1 ≡ decimal (total (pairs_by net f))
unfolding first_line
total-told {s = s} {net} N f h = ap (λ l. field l 1) (first-line (plan_showing net s f) f.pieces h.long h.plain refl (site-name-is-plain N))

module _ (known : List Edition) (s t : List ℕ) (network : (edition_of known s).sizing ≡ Reserved) (network-other : (edition_of known t).sizing ≡ Reserved)
    (net other : Network) (read : read_sheet known s ≡ accepted net) (read-other : read_sheet known t ≡ accepted other) (same : SameRecords s t) where
  abbrev N : IsNetwork (edition_of known s) s net
  N = an_accepted_sheet_is_a_tree (edition_of known s) s net read

  abbrev N' : IsNetwork (edition_of known t) t other
  N' = an_accepted_sheet_is_a_tree (edition_of known t) t other read-other

  -- each site and link of the one sheet is one of the other, and the other way
  pub each-is-among : Among s net t other
  each-is-among = covered-is-among s net t other (an_accepted_sheet_holds_its_records (edition_of known s) s network net read)
      (an_accepted_sheet_holds_its_records (edition_of known t) t network-other other read-other) (shuffled_covers SameRecord same)

  pub each-is-among-turned : Among t other s net
  each-is-among-turned = covered-is-among t other s net (an_accepted_sheet_holds_its_records (edition_of known t) t network-other other read-other)
      (an_accepted_sheet_holds_its_records (edition_of known s) s network net read)
      (λ q z. let k = shuffled_is_covered SameRecord same q z in (k.0, k.1, record_turned k.0 q k.2))

  -- the reports headed `plan`
  pub the_reports_agree : SameReports (report s net) (report t other)
  the_reports_agree =
      let A = each-is-among in
      let B = each-is-among-turned in
      let f = halves net in
      let g = halves other in
      let h = halves_can_be_shown net N.tree in
      let k = halves_can_be_shown other N'.tree in
      let G = the_halves_agree N N' A B in
      let there = among-is-there A in
      let back = among-is-there B in
      rw (the_report_shows_halves net s, the_report_shows_halves other t) (record {
        total = total-told N f h ∙ ap decimal G.totals ∙ sym (total-told N' g k);
        links = link_lines_are_shuffled N N' there back f g h k G;
        sites = site_lines_are_shuffled N N' there back f g h k G;
        sets = set_lines_are_shuffled N N' there back f g h k G;
      })

  -- the reports headed `whole`
  pub the_whole_reports_agree : SameTotal (whole_report s net) (whole_report t other)
  the_whole_reports_agree =
      rw (the_whole_report_shows_wholes net s, the_whole_report_shows_wholes other t)
      (total-told N (wholes net) (wholes_can_be_shown net N.tree)
      ∙ ap decimal (the_whole_totals_agree N N' each-is-among each-is-among-turned)
      ∙ sym (total-told N' (wholes other) (wholes_can_be_shown other N'.tree)))

module _ (known : List Edition) (s t b d : List ℕ) (network : (edition_of known s).sizing ≡ Reserved) (network-other : (edition_of known t).sizing ≡ Reserved)
    (same : SameRecords s t) where
  pub shuffled_sheets_get_the_same_report : number (planned known s b).outcome ≡ 0 → number (planned known t d).outcome ≡ 0
      → SameReports (bytes_told (planned known s b)) (bytes_told (planned known t d))
  shuffled_sheets_get_the_same_report success success-other =
      let h = (zero_is_told_exactly_for_a_full_report report known s b).0 success in
      let k = (zero_is_told_exactly_for_a_full_report report known t d).0 success-other in
      rw (the_report_is_told report known s b h.0 h.1 success, the_report_is_told report known t d k.0 k.1 success-other)
      (the_reports_agree known s t network network-other h.0 k.0 h.1 k.1 same)

  pub shuffled_sheets_get_the_same_whole_total : number (planned_whole known s b).outcome ≡ 0 → number (planned_whole known t d).outcome ≡ 0
      → SameTotal (bytes_told (planned_whole known s b)) (bytes_told (planned_whole known t d))
  shuffled_sheets_get_the_same_whole_total success success-other =
      let h = (zero_is_told_exactly_for_a_full_report whole_report known s b).0 success in
      let k = (zero_is_told_exactly_for_a_full_report whole_report known t d).0 success-other in
      rw (the_report_is_told whole_report known s b h.0 h.1 success, the_report_is_told whole_report known t d k.0 k.1 success-other)
      (the_whole_reports_agree known s t network network-other h.0 k.0 h.1 k.1 same)

module _ (s t b d : List ℕ) (net other : Network) (read : read_sheet editions s ≡ accepted net) (read-other : read_sheet editions t ≡ accepted other)
    (room : REPORT ≤ length b) (room-other : REPORT ≤ length d) (same : SameRecords s t) where
  -- the bytes printed for a sheet are its report
  printed : (text : Reporter) (s b : List ℕ) (net : Network) → read_sheet editions s ≡ accepted net → length (text s net) ≤ REPORT → REPORT ≤ length b
      → bytes_printed (answered_by text editions s b) ≡ text s net
  printed text s b net read fits room = ap bytes_printed (report-answered text editions s b net read (omega arith)) ∙ the_front_is_printed b (text s net)

  pub the_program_prints_the_same_for_shuffled_sheets : SameReports (bytes_printed (answered editions s b)) (bytes_printed (answered editions t d))
  the_program_prints_the_same_for_shuffled_sheets =
      rw (
        printed report s b net read (a_report_fits_65536_bytes s net read) room,
        printed report t d other read-other (a_report_fits_65536_bytes t other read-other) room-other,
      )
      (the_reports_agree editions s t (a_known_edition_is_of_networks s) (a_known_edition_is_of_networks t) net other read read-other same)

  pub the_whole_program_prints_the_same_total_for_shuffled_sheets :
      SameTotal (bytes_printed (answered_whole editions s b)) (bytes_printed (answered_whole editions t d))
  the_whole_program_prints_the_same_total_for_shuffled_sheets =
      rw (
        printed whole_report s b net read (a_whole_report_fits_65536_bytes s net read) room,
        printed whole_report t d other read-other (a_whole_report_fits_65536_bytes t other read-other) room-other,
      )
      (the_whole_reports_agree editions s t (a_known_edition_is_of_networks s) (a_known_edition_is_of_networks t) net other read read-other same)
