-- The names in a report are spelt as on the sites' own `N` lines (document 02, Card 4), for either report: each is written from the range of the sheet
-- that the site line gave, whatever the link lines spell. By the lines of each letter (`Records`).
use Rattle.std.specs.Prelude.{◌≡◌, refl, ◌⊎◌, ℕ, ◌-◌, ◌<◌, length}
use Rattle.std.proofs.Math.Logic.{inl, inr}
use mathlib.Core.List.{List, [], ◌∷◌, flat_map}
use Rattle.std.proofs.Common.{arith}
use Rattle.std.proofs.lemmas.List.{length-map}
use Rattle.std.proofs.Math.ListN.{get_or-map}
use Rattle.lists.specs.Numbers.{upfrom, Each}
use Rattle.lists.specs.Maps.{each_from}
use Rattle.lists.specs.Sums.{same?, pick_same, pick_other}
use Rattle.lists.specs.Tallies.{each_map}
use Rattle.model.specs.Flows.{Site, Route, sites, one, two}
use Rattle.model.specs.Text.{bytes}
use Rattle.model.specs.declared.Edition.{Edition}
use Rattle.theory_trees.proofs.Sites.{look-site}
use Rattle.sheet_kinds.specs.LineKinds.{field}
use Rattle.sheet_names.specs.Names.{name_at}
use Rattle.sheet.specs.Sheet.{Network, accepted, read_sheet, edition_of}
use Rattle.sheet.specs.OwnLines.{a_name_stands_on_its_own_line}
use Rattle.sheet.specs.SheetTheorem.{IsNetwork, an_accepted_sheet_is_a_tree}
use Rattle.report.specs.Report.{owner_name, Plan, report_of, report, whole_report}
use Rattle.planner.specs.Figures.{Figures, halves, wholes, plan_showing, pairs_by, Showable, figures_have_sound_pairs}
use Rattle.planner.specs.Figures.{the_report_shows_halves, the_whole_report_shows_wholes, halves_can_be_shown}
use Rattle.planner.specs.WholeFigures.{wholes_can_be_shown}
use Rattle.demands.specs.Printed.{Record, is_end}
use Rattle.demands.specs.Asked.{SpeltAsGiven, NamesAsGiven}
use Rattle.demands.specs.Lists.{each_made, each-site}
use Rattle.demands.specs.Records.{link_fields, site_fields, cut_lines, pair_fields, link-lines, site-lines, cut-lines, pair-lines}
use Rattle.demands.specs.Names.{name_read_back, site-name-is-plain}

module _ (known : List Edition) (s : List ℕ) (net : Network) (read : read_sheet known s ≡ accepted net) where
  abbrev N : IsNetwork (edition_of known s) s net
  N = an_accepted_sheet_is_a_tree (edition_of known s) s net read

  abbrev n : ℕ
  n = length net.names

  abbrev name : ℕ → List ℕ
  name v = name_at s net.names (v - 1)

  -- the name of a site, from its own line
  spelt : (v : ℕ) → Site n v → SpeltAsGiven known s net (name v)
  spelt v q =
      let own = a_name_stands_on_its_own_line (edition_of known s) s net read (v - 1) (omega arith) in
      record { site = v; is-site = q; named = name_read_back N v q; line = own; name = own.name }

  module _ (f : Figures) (h : Showable net f) where
    abbrev p : Plan
    p = plan_showing net s f

    abbrev end : ℕ → ℕ
    end = is_end net

    -- two names on a line
    abbrev Two : Record → Type 0
    Two l = SpeltAsGiven known s net (field l 1) × SpeltAsGiven known s net (field l 2)

    -- a name and an owner, or none
    abbrev Owned : Record → Type 0
    Owned l = SpeltAsGiven known s net (field l 1) × ((field l 2 ≡ bytes "-") ⊎ SpeltAsGiven known s net (field l 2))

    links-spelt : (j : ℕ) → j < length net.links → Two (link_fields p j)
    links-spelt j l =
        rw (get_or-map (λ r. r.0) net.links j (0, 0), get_or-map (λ r. r.1) net.links j (0, 0))
        (spelt (one net.links j) (N.tree.ends j l).0, spelt (two net.links j) (N.tree.ends j l).1)

    -- an owner is a site, or none
    owner-spelt : (v : ℕ) → Site n v → (owner_name name (f.owner v) ≡ bytes "-") ⊎ SpeltAsGiven known s net (owner_name name (f.owner v))
    unfolding owner_name
    owner-spelt v q = elim (h.owned v q) [
      | inl e ↦ inl (rw (pick_same {A = List ℕ} e))
      | inr r ↦ same? (f.owner v) 0 (λ e. inl (rw (pick_same {A = List ℕ} e))) (λ d. inr (rw (pick_other {A = List ℕ} d) (spelt (f.owner v) r.0)))
    ]

    sets-spelt : (us : List ℕ) → Each (Site n) us → Each (λ l. SpeltAsGiven known s net (field l 1)) (flat_map (cut_lines p) us)
    unfolding flat_map
    sets-spelt [] q = tt
    sets-spelt (u ∷ us) q = same? (end u) 1
        (λ e. rw (pick_same {A = List Record} e) (spelt u q.0, sets-spelt us q.1))
        (λ d. rw (pick_other {A = List Record} d) (sets-spelt us q.1))

    routes : Each (Route net.links n end) (pairs_by net f)
    routes = (figures_have_sound_pairs net N.tree f h).routes

    figures-spell-names-as-given : NamesAsGiven known s net (report_of p)
    figures-spell-names-as-given = record {
      links = rw (link-lines p f.pieces h.long h.plain refl (site-name-is-plain N)) (each_made Two (link_fields p) (upfrom 0 (length p.ones))
          (each_from (λ j. Two (link_fields p j)) 0 (length p.ones) (λ j l k. links-spelt j (omega (arith, length-map net.links (λ r. r.0))))));
      sites = rw (site-lines p f.pieces h.long h.plain refl (site-name-is-plain N)) (each_made Owned (site_fields p) (sites n)
          (each-site (λ v. Owned (site_fields p v)) n (λ v q. rw (look-site f.owner n v q) (spelt v q, owner-spelt v q))));
      sets = rw (cut-lines p f.pieces h.long h.plain refl (site-name-is-plain N)) (sets-spelt (sites n) (each-site (Site n) n (λ v q. q)));
      pairs = rw (pair-lines p f.pieces h.long h.plain refl (site-name-is-plain N)) (each_made Two (pair_fields p) (pairs_by net f)
          (each_map (Route net.links n end) (λ e. Two (pair_fields p e)) (λ e r. (spelt e.first r.first-site, spelt e.second r.second-site))
          (pairs_by net f) routes));
    }

  -- in halves
  pub the_report_spells_names_as_given : NamesAsGiven known s net (report s net)
  the_report_spells_names_as_given = rw (the_report_shows_halves net s) (figures-spell-names-as-given (halves net) (halves_can_be_shown net N.tree))

  -- in whole circuits
  pub the_whole_report_spells_names_as_given : NamesAsGiven known s net (whole_report s net)
  the_whole_report_spells_names_as_given =
      rw (the_whole_report_shows_wholes net s) (figures-spell-names-as-given (wholes net) (wholes_can_be_shown net N.tree))
