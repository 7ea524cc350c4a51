-- What Card 7 changed in planning (document 02): on a sheet without marks nothing. Its ends are the sites with one link, and its pairs are those of the one
-- walk that document 01 speaks of; so it gets the outcome and the buffer that it had, for either report.
use Rattle.std.specs.Prelude.{List, map, ◌≢◌, ◌≡◌, ℕ, zero, suc, length}
use Rattle.std.proofs.Math.Path.{refl}
use Rattle.std.proofs.Common.{ap, ◌∙◌, arith}
use Rattle.lists.specs.Numbers.{look, upfrom}
use Rattle.model.specs.Flows.{Links, Tree, leaf, mark}
use Rattle.model.specs.Pairing.{pair_list}
use Rattle.model.specs.declared.Edition.{Edition}
use Rattle.theory_trees.proofs.Ends.{unmarked_ends_are_leaves, unmarked_ends_are_outer}
use Rattle.theory_walk.specs.Unmarked.{unmarked_pair_lists_stay}
use Rattle.sheet.specs.Sheet.{Network, ends_of, Read, refused, accepted, read_sheet, lookup, edition_of}
use Rattle.sheet.specs.Earlier.{kind_unmarked}
use Rattle.sheet.specs.BareNames.{WithoutBareNames}
use Rattle.sheet.specs.Marks.{WithoutMarks, no_site_is_marked}
use Rattle.sheet.specs.SheetTheorem.{an_accepted_sheet_is_a_tree}
use Rattle.report.specs.Report.{report_of, report, whole_report}
use Rattle.planner.specs.Outcome.{Reporter, plan_read, planned_by, planned, planned_whole}
use Rattle.planner.specs.Earlier.{planned_reading, a_sheet_without_marks_is_planned_as_before}
use Rattle.planner.specs.Figures.{Figures, halves_by, wholes_by, plan_with, plan_showing, the_report_shows_halves, the_whole_report_shows_wholes}

-- the list of the sites with one link: place v holds 1 where site v has just one (01: end)
abbrev pub leaves : Links → ℕ → List ℕ
leaves ls n = map (leaf ls) (upfrom 0 (suc n))

-- ---- the reports before

module _ (s : List ℕ) (net : Network) where
  abbrev n : ℕ
  n = length net.names

  abbrev ls : Links
  ls = net.links

  -- the report of figures: their ends have one link, and their pairs come from the walk from one root
  abbrev pub report_before : ((ℕ → ℕ) → Figures) → List ℕ
  report_before figures =
      let f = figures (look (leaves ls n)) in
      report_of (plan_with net (leaves ls n) (pair_list ls n (look f.shown) (look (leaves ls n))) s f)

  module _ (T : Tree ls n) (none : (v : ℕ) → mark net.marks v ≢ 1) where
    as_before : (figures : (ℕ → ℕ) → Figures) → report_of (plan_showing net s (figures (look (ends_of net)))) ≡ report_before figures
    as_before figures =
        let end = look (ends_of net) in
        let t = look (figures end).shown in
        ap (λ pairs. report_of (plan_with net (ends_of net) pairs s (figures end)))
        (unmarked_pair_lists_stay T end t (unmarked_ends_are_outer ls n net.marks none))
        ∙ ap (λ ends. report_of (plan_with net ends (pair_list ls n (look (figures (look ends)).shown) (look ends)) s (figures (look ends))))
        (unmarked_ends_are_leaves ls n net.marks none)

    pub a_report_without_marks_is_as_before : report s net ≡ report_before (halves_by net)
    a_report_without_marks_is_as_before = the_report_shows_halves net s ∙ as_before (halves_by net)

    pub a_whole_report_without_marks_is_as_before : whole_report s net ≡ report_before (wholes_by net)
    a_whole_report_without_marks_is_as_before = the_whole_report_shows_wholes net s ∙ as_before (wholes_by net)

-- ---- planning before

module _ (known : List Edition) (s : List ℕ) (none : WithoutMarks s) where
  -- no site of the network is marked
  pub unmarked : (net : Network) → read_sheet known s ≡ accepted net → (v : ℕ) → mark net.marks v ≢ 1
  unmarked net e zero m = absurd (omega arith)
  unmarked net e (suc i) m = absurd (omega (arith, no_site_is_marked (edition_of known s) s none net e i))

  -- a text of the report that agrees on the network of the sheet plans alike
  alike : (text before : Reporter) (b : List ℕ) → ((net : Network) → read_sheet known s ≡ accepted net → text s net ≡ before s net)
      → planned_by before known s b ≡ planned_by text known s b
  unfolding planned_by plan_read
  alike text before b h = by (read_sheet known s) h
    where
      by : (r : Read) → ((net : Network) → r ≡ accepted net → text s net ≡ before s net) → plan_read before s b r ≡ plan_read text s b r
      by (refused k l) h = refl
      by (accepted net) h = rw (h net refl)

  -- a sheet without marks, and without bare numbers for names, gets the outcome and the buffer that it had: by the site lines, the ends and the walk from
  -- before
  pub an_unmarked_sheet_is_planned_as_before : WithoutBareNames s → (b : List ℕ)
      → planned_reading kind_unmarked lookup (λ s net. report_before s net (halves_by net)) known s b ≡ planned known s b
  an_unmarked_sheet_is_planned_as_before lettered b =
      a_sheet_without_marks_is_planned_as_before (λ s net. report_before s net (halves_by net)) known s b none lettered
      ∙ alike report (λ s net. report_before s net (halves_by net)) b
      (λ net e. a_report_without_marks_is_as_before s net (an_accepted_sheet_is_a_tree (edition_of known s) s net e).tree (unmarked net e))

  pub an_unmarked_sheet_is_planned_whole_as_before : WithoutBareNames s → (b : List ℕ)
      → planned_reading kind_unmarked lookup (λ s net. report_before s net (wholes_by net)) known s b ≡ planned_whole known s b
  an_unmarked_sheet_is_planned_whole_as_before lettered b =
      a_sheet_without_marks_is_planned_as_before (λ s net. report_before s net (wholes_by net)) known s b none lettered
      ∙ alike whole_report (λ s net. report_before s net (wholes_by net)) b
      (λ net e. a_whole_report_without_marks_is_as_before s net (an_accepted_sheet_is_a_tree (edition_of known s) s net e).tree (unmarked net e))
