-- The report of an accepted sheet fits REPORT bytes: its names are short, its numbers within the limits, and its pairs no more than its links.
-- For any figures that can be shown: by the bounds that reading gives, and by the theorems about the pair list.
use Rattle.std.specs.Prelude.{◌≡◌, true, List, [], ℕ, ◌-◌, ◌*◌, ◌≤◌, ◌<◌, length}
use native.Mathlib.Omega.{arith}
use Rattle.std.proofs.Math.Nat.{mul-le-mul_right}
use Rattle.std.proofs.Math.Decide.{dec_lt}
use Rattle.std.proofs.lemmas.List.{length-map}
use Rattle.std.proofs.Math.ListN.{get_or-eq_default}
use Rattle.model.specs.Edition.{largest}
use Rattle.model.specs.Limits.{LINKS, SIZE, REPORT}
use Rattle.lists.specs.Numbers.{is, sum, look}
use Rattle.model.specs.Flows.{Links, sites, sum_at, total, at_terminals}
use Rattle.model.specs.declared.Edition.{Edition}
use Rattle.lists.specs.Sums.{cases, is_le, sum-mul, sum_one, sum-le}
use Rattle.lists.specs.Places.{over-le}
use Rattle.lists.specs.Tallies.{each_map}
use Rattle.theory_trees.proofs.Sites.{look-site}
use Rattle.theory_trees.proofs.Leaves.{sums_at_sites_count_links_twice}
use Rattle.theory_walk.specs.Sound.{Sound}
use Rattle.theory_walk.specs.PartsTheorem.{amounts_are_bounded}
use Rattle.text_fields.specs.Fields.{is_name}
use Rattle.text_fields.specs.FieldLaws.{name-length}
use Rattle.sheet_names.specs.Names.{name_at}
use Rattle.sheet.specs.Sheet.{Network}
use Rattle.sheet.specs.SheetTheorem.{IsNetwork}
use Rattle.report.specs.Report.{report_of, report, whole_report}
use Rattle.report.specs.Length.{Small, odd_lines_are_short, a_small_plan_has_a_small_report}
use Rattle.planner.specs.Figures.{Figures, terminal, halves, wholes, pairs_by, plan_showing, the_report_shows_halves, the_whole_report_shows_wholes}
use Rattle.planner.specs.Figures.{Showable, figures_have_sound_pairs, halves_can_be_shown}
use Rattle.planner.specs.WholeFigures.{wholes_can_be_shown}

-- what is written for a number is the name of a site, or nothing
pub name-or-nothing : {ed : Edition} {s : List ℕ} {net : Network} → IsNetwork ed s net → (P : List ℕ → Type 0)
    → ((f : List ℕ) → is_name f ≡ true → P f) → P [] → (v : ℕ) → P (name_at s net.names (v - 1))
name-or-nothing {ed} {s} {net} N P h e v = cases (dec_lt (v - 1) (length net.names))
    (λ l. h (name_at s net.names (v - 1)) (N.names (v - 1) l).name)
    (λ l. rw (get_or-eq_default net.names (0, 0) {n = v - 1} (omega arith)) e)

module _ {s : List ℕ} {net : Network} (N : IsNetwork largest s net) where
  abbrev ls : Links
  ls = net.links

  abbrev n : ℕ
  n = length net.names

  abbrev c : ℕ → ℕ
  c = look net.capacities

  pub few_links : length ls ≤ LINKS
  few_links = omega (arith, N.few, N.tree.links)

  given : (j : ℕ) → j < length ls → c j ≤ SIZE
  given j l = N.sizes j (omega (arith, N.capacities))

  -- the given sizes sum to no more than the size limit times the number of links
  sizes-within : sum (length ls) c ≤ LINKS * SIZE
  sizes-within = omega (
    arith,
    few_links,
    sum-le (length ls) c (λ j. SIZE * 1) (λ j l. omega (arith, given j l)),
    sum-mul (length ls) SIZE (λ j. 1),
    sum_one (length ls),
  )

  module _ (f : Figures) (h : Showable net f) where
    abbrev x : ℕ → ℕ
    x = look f.shown

    pub pairs_shown_are_sound : Sound ls n (terminal net) x (pairs_by net f)
    pairs_shown_are_sound = figures_have_sound_pairs net N.tree f h

    pub total-shown-within : total (pairs_by net f) ≤ 2 * (LINKS * SIZE)
    unfolding at_terminals
    total-shown-within = omega (
      arith,
      pairs_shown_are_sound.sums,
      over-le (sites n) (λ w. is (terminal net w) 1 * sum_at ls w x) (λ w. sum_at ls w x)
          (λ w q. omega (arith, mul-le-mul_right (sum_at ls w x) (is_le (terminal net w) 1))),
      sums_at_sites_count_links_twice N.tree x,
      sum-le (length ls) x c h.below,
      sizes-within,
    )

    plan-is-small : Small (plan_showing net s f)
    plan-is-small =
        let links = length-map ls (λ l. l.0) in
        record {
          word = h.short;
          before = odd_lines_are_short f.pieces h.one-piece-line (each_map _ _ (λ k q. omega (arith, N.few)) f.pieces h.few_pieces);
          name = name-or-nothing N (λ f. length f ≤ 12) (λ f e. (name-length f e).1) (omega arith);
          sites_few = N.few;
          links_few = omega (arith, links, few_links);
          pairs_few = omega (arith, pairs_shown_are_sound.few, few_links);
          capacity = λ j l. omega (arith, given j (omega (arith, links)));
          shown = λ j l. let k : j < length ls = omega (arith, links) in omega (arith, given j k, h.below j k);
          cut-size = λ a q. rw (look-site f.size n a q) (omega (arith, h.sizes a, sizes-within));
          cut-count = λ a q. rw (look-site f.count n a q) (omega (arith, h.counts a, N.few));
          amount = amounts_are_bounded N.tree (terminal net) x (pairs_by net f) pairs_shown_are_sound SIZE (λ j l. omega (arith, given j l, h.below j l));
          total_small = total-shown-within;
        }

    pub figures_are_small : length (report_of (plan_showing net s f)) ≤ REPORT
    figures_are_small = a_small_plan_has_a_small_report (plan_showing net s f) plan-is-small

  -- in halves, and in whole circuits
  pub a_report_is_small : length (report s net) ≤ REPORT
  a_report_is_small = rw (the_report_shows_halves net s) (figures_are_small (halves net) (halves_can_be_shown net N.tree))

  pub a_whole_report_is_small : length (whole_report s net) ≤ REPORT
  a_whole_report_is_small = rw (the_whole_report_shows_wholes net s) (figures_are_small (wholes net) (wholes_can_be_shown net N.tree))
