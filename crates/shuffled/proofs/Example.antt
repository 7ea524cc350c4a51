-- Two sheets that hold the same records in different orders, computed: names in either case, a link with its names exchanged, a reserve of 0 that is not
-- written, a mark. Their reports agree in all that Card 14 names; their pairs differ, even in number.
use mathlib.Core.List.{[], ◌∷◌, map, flat_map}
use Rattle.std.proofs.Common.{inl, inr}
use Rattle.std.specs.Prelude.{◌≡◌, refl}
use Rattle.std.proofs.Math.Decide.{ℕ_discrete, dec_le, dec_lt}
use Rattle.lists.specs.Numbers.{pick, is, differ, less, sum, over, count, upfrom}
use Rattle.model.specs.Flows.{at, sum_at, leaf, end_at, ends, relabel, label, joined, total}
use Rattle.model.specs.Trimming.{cut_at, cut_site, cut_sites, unvisited, first, remove, taken, elimination, balanced_along, balanced}
use Rattle.model.specs.Cuts.{kept, group, in_cut, cut_size, cut_count, owner_among, owner}
use Rattle.model.specs.Pairing.{put, take_halves, drop_halves, halves, give, match, joins, between, children, gather, alone, settle, walk, pairs_from}
use Rattle.model.specs.Pairing.{lowest_inner, lower_first, before, insert, ordered}
use Rattle.model.specs.Parts.{within, single, region, member, home, lowest, root, pairs_of_part, pair_of_link, pairs_of_parts, pair_list_of_parts}
use Rattle.text_lines.specs.Lines.{line_length, line_at, after_line, has_line}
use Rattle.text_records.specs.Records.{lines_of, records}
use Rattle.sheet_kinds.specs.LineKinds.{same, push, fields, all, is_name, is_number, value_from, is_heading, checked_fields, checked, fault_of, judged}
use Rattle.sheet_kinds.specs.LineKinds.{size_of, capacity_of, site_line as sheetSite, sized_link, link_line as sheetLink, kind_of, kind}
use Rattle.sheet.specs.Sheet.{capitals, lookup_from, site_step, link_step, heading_step, record_step, step_of, read_line, and_then, read_lines, all_joined}
use Rattle.sheet.specs.Sheet.{finish, read_as, edition_of}
use Rattle.sheet_records.specs.SameRecords.{records_of, same-site, same-link, SameRecords}
use Rattle.theory_shuffled.specs.Shuffled.{none, next}
use Rattle.report.specs.Report.{digits, decimal, line, lines, plan_of, owner_name, head_record, link_record, link_line, site_record, site_line, cut_record, cut_line}
use Rattle.report.specs.Report.{pair_line, report_of, report}
use Rattle.planner.specs.Outcome.{deliver, plan_read, planned_by}
use Rattle.nine.specs.Planned.{planned_for, expected}
use Rattle.shuffled.specs.Example.{one, two}

the_records_are_the_same : SameRecords one.sheet two.sheet
unfolding records_of records lines_of push fields checked_fields checked all same is_name is_number value_from capitals
the_records_are_the_same =
    next [] _ (same-site (inl refl) (inl refl) refl refl) refl
    (next [] _ (same-site (inl refl) (inl refl) refl refl) refl
    (next (_ ∷ []) _ (same-site (inr refl) (inr refl) refl refl) refl
    (next [] _ (same-site (inl refl) (inl refl) refl refl) refl
    (next (_ ∷ []) _ (same-site (inl refl) (inl refl) refl refl) refl
    (next (_ ∷ []) _ (same-link refl refl (inl (refl, refl)) refl refl) refl
    (next [] _ (same-link refl refl (inr (refl, refl)) refl refl) refl
    (next (_ ∷ []) _ (same-link refl refl (inl (refl, refl)) refl refl) refl
    (next [] _ (same-link refl refl (inr (refl, refl)) refl refl) refl none))))))))

the_pairs_differ : map (planned_for report) (one ∷ two ∷ []) ≡ map expected (one ∷ two ∷ [])
unfolding planned_for expected planned_by plan_read deliver ℕ_discrete dec_le dec_lt pick is differ less sum over count upfrom at sum_at leaf end_at ends relabel
    label joined total cut_at cut_site cut_sites unvisited first remove taken elimination balanced_along balanced kept group in_cut cut_size cut_count owner_among
    owner put take_halves drop_halves halves give match joins between children gather alone settle walk pairs_from lowest_inner lower_first before insert ordered
    within single region member home lowest root pairs_of_part pair_of_link pairs_of_parts pair_list_of_parts flat_map
    line_length line_at after_line has_line same push fields all is_name is_number value_from is_heading checked_fields checked fault_of judged
    size_of capacity_of sheetSite sized_link sheetLink kind_of kind capitals lookup_from site_step link_step heading_step record_step step_of read_line and_then
    read_lines all_joined finish read_as edition_of digits decimal line lines plan_of
    owner_name head_record link_record link_line site_record site_line cut_record cut_line pair_line
    report_of report
the_pairs_differ = refl
