-- Which reorderings of an accepted sheet are accepted again: those in which each link stands below its two sites. No cause of a refusal is left: a record
-- keeps its form, sites and links are as many and as different as they were, and links that join no two joined sites in one order do so in no other.
use Rattle.std.specs.Prelude.{List, [], ◌∷◌, ◌↔◌, ◌≡◌, refl, ℕ, ◌-◌}
use Rattle.model.specs.declared.Edition.{Edition}
use Rattle.model.specs.declared.Sizing.TheVariants.{Reserved}
use Rattle.text_lines.specs.Lines.{line_at}
use Rattle.sheet_kinds.specs.FaultyLines as faulty
use Rattle.sheet_kinds.specs.declared.Line.TheVariants as line
use Rattle.sheet.specs.Sheet.{Network, refused, accepted, read_sheet, edition_of}
use Rattle.sheet.specs.SheetTheorem.{a_sheet_is_refused_for_its_cause}
use Rattle.sheet_records.specs.SameRecords.{SameRecords}
use Rattle.sheet_records.specs.SameRecords.{EachLinkBelowItsSites, SameFrame}
use Rattle.shuffled.specs.Accepted.{accepted_exactly_if_each_link_is_below, refused_with_6_alone}

-- the heading tells the edition
same_edition : (known : List Edition) (s t : List ℕ) → line_at t 0 ≡ line_at s 0 → edition_of known t ≡ edition_of known s
unfolding edition_of
same_edition [] s t e = refl
same_edition (ed ∷ known) s t e = rw (e, same_edition known s t e)

-- which reorderings of an accepted network sheet are accepted again, whatever editions are known; the others are refused with 6
module _ (known : List Edition) (s t : List ℕ) (network : (edition_of known s).sizing ≡ Reserved) (net : Network) (read : read_sheet known s ≡ accepted net)
    (F : SameFrame (edition_of known s) s t) (same-records : SameRecords s t) where
  pub a_shuffled_sheet_is_accepted_exactly_if_each_link_is_below_its_sites : ((other : Network) × (read_sheet known t ≡ accepted other))
      ↔ EachLinkBelowItsSites t
  a_shuffled_sheet_is_accepted_exactly_if_each_link_is_below_its_sites =
      rw (same_edition known s t F.heading) (accepted_exactly_if_each_link_is_below (edition_of known s) network s t net read F same-records)

  pub a_shuffled_sheet_is_refused_with_6_alone : (n k : ℕ) → read_sheet known t ≡ refused n k → n ≡ 6
  a_shuffled_sheet_is_refused_with_6_alone n k e =
      (refused_with_6_alone (edition_of known s) network s t net read F same-records n k
      ((a_sheet_is_refused_for_its_cause (edition_of known s) t n k).0 (rw (same_edition known s t F.heading) at e))).0
