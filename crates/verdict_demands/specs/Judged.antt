-- The pairs of the report in halves, taken as a plan text over the same sheet, are always accepted with yes; those of the report in whole circuits are accepted
-- too, with yes exactly if no fitting plan has a greater total. Document 02, Card 12 ("The pairs of the report in halves are always accepted with yes").
-- Over the bytes: the plan text is the lines of the report with the letter `P`.
use Rattle.std.specs.Prelude.{true, ◌≡◌, ◌↔◌, ℕ, ◌-◌, ◌*◌, ◌≤◌, eqb, length}
use Rattle.std.proofs.Math.Path.{refl, ap}
use Rattle.std.proofs.Common.{◌∙◌, arith}
use mathlib.Core.List.{List, [], ◌∷◌, ◌++◌, map}
use borrow.Author.Tests.{le-leb, eq-eqb, eqb-true}
use Rattle.std.proofs.Math.ListN.{length-append}
use Rattle.std.proofs.lemmas.List.{length-map}
use Rattle.lists.specs.Numbers.{look, upfrom, Each}
use Rattle.lists.specs.Sums.{pick_same}
use Rattle.lists.specs.Tallies.{each_both}
use Rattle.model.specs.Limits.{PLANLINES, PLANBYTES, SIZE}
use Rattle.model.specs.Edition.{editions}
use Rattle.model.specs.Text.{bytes}
use Rattle.model.specs.Flows.{Route, Fits, load, sites, total}
use Rattle.model.specs.Booking.{places_of}
use Rattle.model.specs.declared.Pair.{Pair}
use Rattle.model.specs.declared.Request.TheVariants.{Open}
use Rattle.theory_walk.specs.Sound.{Sound}
use Rattle.theory_walk.specs.PartsTheorem.{amounts_are_bounded}
use Rattle.theory_walk.proofs.PartsTheorem.{pair_list_of_parts_lower_first}
use Rattle.theory_verdicts.specs.HandPlan.{entries, account, overloaded, largest_total}
use Rattle.theory_verdicts.specs.Accounts.{drawn}
use Rattle.theory_verdicts.proofs.Loads.{what_fits_overloads_nothing}
use Rattle.theory_verdicts.specs.Largest.{NoneGreater}
use Rattle.theory_verdicts.proofs.Largest.{a_plan_has_the_largest_total_exactly_if_none_is_greater}
use Rattle.text_writers.specs.Fields.{line}
use Rattle.sheet.proofs.Editions.{an_accepted_sheet_is_within_the_largest}
use Rattle.sheet.specs.Sheet.{Network, accepted, read_sheet, edition_of}
use Rattle.sheet.specs.SheetTheorem.{IsNetwork, an_accepted_sheet_is_a_tree}
use Rattle.report.specs.Report.{lines, head_record, link_line, site_line, cut_line, pair_line, report_of, report, whole_report}
use Rattle.planner.specs.Figures.{Figures, halves, wholes, pairs_by, plan_showing, Showable, figures_have_sound_pairs, halves_can_be_shown}
use Rattle.planner.specs.Figures.{the_report_shows_halves, the_whole_report_shows_wholes}
use Rattle.planner.specs.WholeFigures.{wholes_can_be_shown}
use Rattle.planner.specs.Small.{few_links, figures_are_small}
use Rattle.demands.specs.Printed.{records, headed}
use Rattle.demands.specs.Records as written
use Rattle.demands.specs.Names.{site-name-is-plain}
use Rattle.log_requests.specs.Requests.{requests, is_end}
use Rattle.log_requests.specs.Requests as read
use Rattle.log_requests.proofs.RequestLaws.{as_many_requests_as_lines}
use Rattle.verdicts.specs.Outcome.{judged_as, verdict, judge_over, judge_read, judged}
use Rattle.verdict_demands.specs.Entered.{LowerFirst, places_are_few, no_pair_is_given_twice, entered-total, entered-load}
use Rattle.verdict_demands.specs.PairLines.{Good, name, the_pair_lines_ask_for_the_pairs}

-- the lines of a report whose first field is `P`, each with its byte 10: a plan text
unfoldable pub pairs_of : List ℕ → List ℕ
pairs_of r = lines line (headed (bytes "P") (records r))

-- lines of what is mapped
lines_mapped : {A B : Type 0} (f : B → List ℕ) (g : A → B) (l : List A) → lines f (map g l) ≡ lines (λ a. f (g a)) l
unfolding lines
lines_mapped f g [] = refl
lines_mapped f g (a ∷ l) = ap (λ r. f (g a) ++ r) (lines_mapped f g l)

module _ (s : List ℕ) (net : Network) (accepts : read_sheet editions s ≡ accepted net) where
  N : IsNetwork (edition_of editions s) s net
  N = an_accepted_sheet_is_a_tree (edition_of editions s) s net accepts

  abbrev n : ℕ
  n = length net.names

  abbrev most : ℕ
  most = largest_total net.links n (is_end net) net.capacities

  module _ (f : Figures) (h : Showable net f) where
    abbrev es : List Pair
    es = pairs_by net f

    abbrev name_of : ℕ → List ℕ
    name_of = name (edition_of editions s) s net N accepts

    abbrev text : List ℕ
    text = lines (pair_line name_of) es

    sound : Sound net.links n (is_end net) (look f.shown) es
    sound = figures_have_sound_pairs net N.tree f h

    -- ---- the `P` lines

    -- cut out of the report
    cut_out : pairs_of (report_of (plan_showing net s f)) ≡ text
    unfolding pairs_of pair_line
    cut_out =
        let p = plan_showing net s f in
        ap (lines line) (written.pair-lines p f.pieces h.long h.plain refl (site-name-is-plain N)) ∙ lines_mapped line (written.pair_fields p) es

    -- they are no longer than the report
    short : length text ≤ PLANBYTES
    unfolding report_of
    short =
        let p = plan_showing net s f in
        let front =
        head_record p.word (total p.pairs) (length p.pairs)
        ++ lines (link_line p.names p.ones p.twos p.capacities p.shown) (upfrom 0 (length p.ones))
        ++ lines (site_line p.names p.owners) (sites p.size)
        ++ lines (cut_line p.names p.ends p.cut_sizes p.cut_counts) (sites p.size)
        ++ p.before in
        omega (arith, figures_are_small (an_accepted_sheet_is_within_the_largest s net accepts) f h, length-append front text)

    good : Each (Good (edition_of editions s) s net N accepts) es
    good =
        let g = an_accepted_sheet_is_within_the_largest s net accepts in
        each_both (λ e. Route net.links n (is_end net) e × (1 ≤ e.amount)) (λ e. e.amount ≤ 2 * SIZE) (Good (edition_of editions s) s net N accepts)
        (λ e r l. record { route = r.0; some = r.1; limited = l }) es
        (each_both (Route net.links n (is_end net)) (λ e. 1 ≤ e.amount) (λ e. Route net.links n (is_end net) e × (1 ≤ e.amount)) (λ e r p. (r, p)) es
        sound.routes sound.positive)
        (amounts_are_bounded N.tree (is_end net) (look f.shown) es sound SIZE
        (λ j l. omega (arith, h.below j l, g.sizes j (omega (arith, g.capacities)))))

    asked : requests true s net.names net.links (is_end net) text ≡ map Open es
    asked = the_pair_lines_ask_for_the_pairs (edition_of editions s) s net N accepts es good

    few : length (read.lines text) ≤ PLANLINES
    few = omega (
      arith,
      as_many_requests_as_lines true s net.names net.links (is_end net) text,
      ap length asked,
      length-map es Open,
      sound.few,
      few_links (an_accepted_sheet_is_within_the_largest s net accepts),
    )

    -- ---- what they come to

    low : LowerFirst es
    low = pair_list_of_parts_lower_first N.tree (is_end net) (look f.shown) h.balanced

    once : (a b : ℕ) → places_of a b es ≤ 1
    once a b = omega (arith, places_are_few a b es, sound.once a b)

    come-to : account 1 [] (requests true s net.names net.links (is_end net) text) ≡ entries (drawn [] (map Open es))
    unfolding places_of
    come-to = ap (account 1 []) asked ∙ no_pair_is_given_twice 1 [] es low (λ a b. omega (arith, once a b))

    same_total : total (drawn [] (map Open es)) ≡ total es
    unfolding total
    same_total = omega (arith, entered-total [] es low)

    pub the_figures_fit : Fits net.links 2 (look net.capacities) es
    the_figures_fit j l = omega (arith, sound.loads j l, h.below j l)

    nothing-loaded : overloaded net.links (look net.capacities) (drawn [] (map Open es)) ≡ 0
    unfolding load
    nothing-loaded = what_fits_overloads_nothing net.links (look net.capacities) (drawn [] (map Open es))
        (λ j l. omega (arith, entered-load net.links j [] es low, the_figures_fit j l))

    -- ---- the verdict

    pub the_pairs_shown_are_accepted : judged editions s (pairs_of (report_of (plan_showing net s f))) ≡ judged_as (total es) (eqb (total es) most)
    unfolding judged judge_read judge_over verdict
    the_pairs_shown_are_accepted =
        ap (judged editions s) cut_out
        ∙ rw (accepts, le-leb _ _ short, le-leb _ _ few, come-to) (pick_same nothing-loaded _ _ ∙ ap (λ x. judged_as x (eqb x most)) same_total)

    -- yes exactly if no fitting plan, however finely cut, has a greater total
    pub the_pairs_shown_get_yes_exactly_if_none_is_greater :
        (eqb (total es) most ≡ true) ↔ NoneGreater net.links n (is_end net) net.capacities (total es)
    the_pairs_shown_get_yes_exactly_if_none_is_greater =
        let law = a_plan_has_the_largest_total_exactly_if_none_is_greater N.tree (is_end net) net.capacities es sound.routes the_figures_fit in
        (λ y. law.0 (eqb-true (total es) most y), λ none. eq-eqb (total es) most (law.1 none))

  -- ---- in halves

  -- the pairs of the report in halves are always accepted with yes, and the total is the report's
  pub the_pairs_of_the_report_are_accepted_with_yes : judged editions s (pairs_of (report s net)) ≡ judged_as (total (pairs_by net (halves net))) true
  unfolding largest_total
  the_pairs_of_the_report_are_accepted_with_yes =
      let h = halves_can_be_shown net N.tree in
      ap (λ r. judged editions s (pairs_of r)) (the_report_shows_halves net s)
      ∙ the_pairs_shown_are_accepted (halves net) h
      ∙ ap (judged_as (total (pairs_by net (halves net)))) (eq-eqb (total (pairs_by net (halves net))) most (sound (halves net) h).sums)

  -- ---- in whole circuits

  -- those of the report in whole circuits are accepted too, with yes exactly if no fitting plan, in halves or however finely cut, has a greater total
  pub the_pairs_of_the_whole_report_are_accepted :
      judged editions s (pairs_of (whole_report s net)) ≡ judged_as (total (pairs_by net (wholes net))) (eqb (total (pairs_by net (wholes net))) most)
  the_pairs_of_the_whole_report_are_accepted =
      ap (λ r. judged editions s (pairs_of r)) (the_whole_report_shows_wholes net s)
      ∙ the_pairs_shown_are_accepted (wholes net) (wholes_can_be_shown net N.tree)

  pub the_whole_report_gets_yes_exactly_if_none_is_greater : (eqb (total (pairs_by net (wholes net))) most ≡ true)
      ↔ NoneGreater net.links n (is_end net) net.capacities (total (pairs_by net (wholes net)))
  the_whole_report_gets_yes_exactly_if_none_is_greater =
      the_pairs_shown_get_yes_exactly_if_none_is_greater (wholes net) (wholes_can_be_shown net N.tree)
