-- The definitions give sheets exactly their reports in whole circuits: by computation. Document 02, Card 2.
use Rattle.std.specs.Prelude.{◌≡◌, refl}
use mathlib.Core.List.{map, flat_map}
use Rattle.std.proofs.Math.Decide.{ℕ_discrete, dec_le, dec_lt}
use Rattle.lists.specs.Numbers.{pick, is, differ, less, sum, over, count, upfrom}
use Rattle.model.specs.Flows.{at, sum_at, leaf, end_at, ends, relabel, label, joined, total}
use Rattle.model.specs.Trimming.{unvisited, first, remove, taken, elimination}
use Rattle.model.specs.Cuts.{kept}
use Rattle.model.specs.Whole.{set_size, connects, piece, in_piece, leaving_piece, set_count, odd_pieces}
use Rattle.model.specs.WholeLoads.{from, upward, beyond, parent_of, put as put_at, lowest, highest, on_way, owner_at, new_top, least_at, take, take_all, top_load}
use Rattle.model.specs.WholeLoads.{coming, give as giveAt, give_all, link_load, above, intervals, loading, whole_load, whole_owner, whole_loads}
use Rattle.model.specs.Pairing.{put, take_halves, drop_halves, halves, give, match, joins, between, children, gather, alone, settle, walk, pairs_from}
use Rattle.model.specs.Pairing.{lowest_inner, lower_first, before, insert, ordered}
use Rattle.model.specs.Parts.{within, single, region, member, home, lowest as lowestOf, root, pairs_of_part, pair_of_link, pairs_of_parts, pair_list_of_parts}
use Rattle.text_lines.specs.Lines.{line_length, line_at, after_line, has_line}
use Rattle.sheet_kinds.specs.LineKinds.{same, push, fields, all, is_name, is_number, value_from, is_heading, checked_fields, checked, fault_of, judged}
use Rattle.sheet_kinds.specs.LineKinds.{size_of, capacity_of, site_line as sheetSite, sized_link, link_line as sheetLink, kind_of, kind}
use Rattle.sheet.specs.Sheet.{capitals, lookup_from, site_step, link_step, heading_step, record_step, step_of, read_line, and_then, read_lines, all_joined}
use Rattle.sheet.specs.Sheet.{finish, read_as, edition_of}
use Rattle.report.specs.Report.{digits, decimal, line, lines, odd_line, whole_of, owner_name, head_record, link_record, link_line, site_record, site_line, cut_record}
use Rattle.report.specs.Report.{cut_line, pair_line, report_of, whole_report}
use Rattle.planner.specs.Outcome.{deliver, plan_read, planned_by}
use Rattle.nine.specs.Sheets.{whole_sheets}
use Rattle.nine.specs.Planned.{planned_for, expected}

sheets_in_whole_circuits : map (planned_for whole_report) whole_sheets ≡ map expected whole_sheets
unfolding planned_for expected planned_by plan_read deliver ℕ_discrete dec_le dec_lt pick is differ less sum over count upfrom at sum_at leaf end_at ends relabel
    label joined total unvisited first remove taken elimination kept set_size connects piece in_piece leaving_piece set_count odd_pieces from upward beyond
    parent_of put_at lowest highest on_way owner_at new_top least_at take take_all top_load
    coming giveAt give_all link_load above intervals loading whole_load whole_owner whole_loads put
    take_halves drop_halves halves give match joins between children gather alone settle walk pairs_from lowest_inner lower_first before insert ordered
    within single region member home lowestOf root pairs_of_part pair_of_link pairs_of_parts pair_list_of_parts flat_map
    line_length line_at after_line has_line same push fields all is_name is_number value_from is_heading checked_fields checked fault_of judged
    size_of capacity_of sheetSite sized_link sheetLink kind_of kind capitals lookup_from site_step link_step heading_step record_step step_of read_line and_then
    read_lines all_joined finish read_as edition_of digits decimal line lines odd_line
    whole_of owner_name head_record link_record link_line site_record site_line cut_record cut_line pair_line
    report_of whole_report
sheets_in_whole_circuits = refl
