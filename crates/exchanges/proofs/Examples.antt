-- Two small sheets, computed (document 02, Card 10): names in either case, editions that differ, a reserve, and the order of the refusals.
use Rattle.std.specs.Prelude.{List, [], ◌∷◌, ◌≡◌, refl, ℕ}
use Rattle.std.proofs.Math.Decide.{ℕ_discrete, dec_le, dec_lt}
use Rattle.lists.specs.Numbers.{pick, is, differ, less, sum, over, count, upfrom}
use Rattle.model.specs.Edition.{editions}
use Rattle.model.specs.Flows.{at, sum_at, leaf, end_at, ends, relabel, label, joined, at_terminals}
use Rattle.model.specs.Text.{bytes}
use Rattle.model.specs.Trimming.{cut_at, cut_site, cut_sites, unvisited, first, remove, taken, elimination, balanced_along, balanced}
use Rattle.text_lines.specs.Lines.{line_length, line_at, after_line, has_line}
use Rattle.sheet_kinds.specs.LineKinds.{same, push, fields, all, is_name, is_number, value_from, is_heading, checked_fields, checked, fault_of, judged}
use Rattle.sheet_kinds.specs.LineKinds.{size_of, capacity_of, site_line, sized_link, link_line, kind_of, kind}
use Rattle.sheet.specs.Sheet.{capitals, lookup_from, site_step, link_step, heading_step, record_step, step_of, read_line, and_then, read_lines, all_joined}
use Rattle.sheet.specs.Sheet.{finish, read_as, edition_of}
use Rattle.theory_regions.specs.Regions.{first_size, trimmed_again, lone, far_site, own, own_sum, given}
use Rattle.theory_regions.specs.Sharing.{first_from, commons, shared_first, shared_second, may_be_far, chosen, shared_at, sharing_of}
use Rattle.exchanges.specs.Shared.{partner}
use Rattle.exchanges.specs.Outcome.{both_of, Exchanged, refusal, deliver, exchange_over, exchange_read, exchanged}
use Rattle.exchanges.specs.Examples.{dale, hill, marked, unreserved}

exchange : List ℕ → List ℕ → List ℕ → List ℕ → Exchanged
unfolding exchanged exchange_read exchange_over deliver partner first_size trimmed_again lone far_site own own_sum given first_from commons shared_first shared_second
    may_be_far chosen shared_at sharing_of ℕ_discrete dec_le dec_lt pick is differ less sum over count upfrom at sum_at leaf end_at ends relabel label joined
    at_terminals cut_at cut_site cut_sites unvisited first remove taken elimination balanced_along balanced line_length line_at after_line has_line same push fields all
    is_name is_number value_from is_heading checked_fields checked fault_of judged size_of capacity_of site_line sized_link link_line kind_of kind capitals lookup_from
    site_step link_step heading_step record_step step_of read_line and_then read_lines all_joined finish read_as edition_of
exchange s t l m = exchanged editions s t l m

-- 6 and 2 are shown, and the lesser goes to both; a place past the answer keeps its value
both_are_given : exchange hill dale (7 ∷ 7 ∷ 7 ∷ 7 ∷ []) (8 ∷ 8 ∷ 8 ∷ []) ≡ record {
  outcome = both_of (record { count = 3; sum = 4 }) (record { count = 3; sum = 2 });
  first = 2 ∷ 3 ∷ 1 ∷ 7 ∷ [];
  second = 1 ∷ 2 ∷ 1 ∷ [];
}
unfolding exchange
both_are_given = refl

-- 9 names the first region whose list is too short
lists_too_short : (exchange hill dale (7 ∷ 7 ∷ []) (8 ∷ []) ≡ refusal 1 9 0 (7 ∷ 7 ∷ []) (8 ∷ []))
    × (exchange hill dale (7 ∷ 7 ∷ 7 ∷ []) (8 ∷ []) ≡ refusal 2 9 0 (7 ∷ 7 ∷ 7 ∷ []) (8 ∷ []))
unfolding exchange
lists_too_short = (refl, refl)

-- 18 comes before 9: a sheet has all names in common with itself; a mark of the far site; a shared link of another usable size
not_one_shared_link : (exchange hill hill [] [] ≡ refusal 0 18 0 [] []) × (exchange hill marked [] [] ≡ refusal 0 18 0 [] [])
    × (exchange hill unreserved [] [] ≡ refusal 0 18 0 [] [])
unfolding exchange
not_one_shared_link = (refl, refl, refl)

-- faults of the first sheet, then of the second, then 18
faults_come_first : (exchange [] (bytes "network\t3\n") [] [] ≡ refusal 1 1 0 [] []) × (exchange hill (bytes "network\t3\n") [] [] ≡ refusal 2 2 1 [] [])
unfolding exchange
faults_come_first = (refl, refl)
