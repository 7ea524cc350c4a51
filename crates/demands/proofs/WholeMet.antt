-- What every report headed `whole` says is what Card 2 asks: by what it says (`wholeSays`) and by the theorems about the loads and sets taken.
use Rattle.std.specs.Prelude.{◌≡◌, List, [], ◌∷◌, map, ℕ, ◌+◌, ◌-◌, ◌≤◌}
use Rattle.std.proofs.Math.Path.{refl, ap}
use Rattle.std.proofs.Common.{sym, ◌∙◌}
use Rattle.model.specs.Edition.{largest}
use Rattle.lists.specs.Numbers.{look}
use Rattle.model.specs.Flows.{Links, Site, Tree, sites, total}
use Rattle.model.specs.Whole.{WholePlan, EndSets, set_sizes, odd_pieces}
use Rattle.model.specs.declared.Edition.{Edition}
use Rattle.model.specs.declared.Pair.{Pair}
use Rattle.theory_whole.specs.Circuits.{PairsWhole}
use Rattle.theory_whole.proofs.Circuits.{the_pairs_of_parts_of_whole_loads}
use Rattle.theory_whole.proofs.Duality.{no_sets_do_better}
use Rattle.sheet.specs.Sheet.{Network, accepted, read_sheet, edition_of}
use Rattle.sheet.specs.SheetTheorem.{IsNetwork, an_accepted_sheet_is_a_tree}
use Rattle.report.specs.Report.{whole_report}
use Rattle.planner.specs.Figures.{wholes, pairs_by, the_whole_report_shows_wholes}
use Rattle.planner.specs.WholeFigures.{wholes_are_largest, wholes_can_be_shown}
use Rattle.demands.specs.Printed.{site_count, is_end, ends_among, read_report, size_sum}
use Rattle.demands.specs.AskedWhole.{FittingWhole, LargestPlan, PrintedSets, IsWholeReport}
use Rattle.demands.specs.Agree.{odd_pieces_agree}
use Rattle.demands.specs.ReadBack.{figures_say}
use Rattle.demands.proofs.ReadBack.{figures_read_back}
use Rattle.demands.proofs.Spelling.{the_whole_report_spells_names_as_given}
use Rattle.demands.specs.Sets.{set_by, sizes_summed, told_sets_are_owned, the_owner_told_is_the_owner}
use Rattle.demands.specs.Met.{a_set_is_told_for_each_end}
use Rattle.demands.proofs.MetLaws.{figures_show_sheet, figures_show_usable_sizes, figures_are_in_order}
use Rattle.demands.specs.WholeMet.{whole_says}

module _ (net : Network) (T : Tree net.links (site_count net)) where
  abbrev ls : Links
  ls = net.links

  abbrev n : ℕ
  n = site_count net

  abbrev end : ℕ → ℕ
  end = is_end net

  abbrev c : ℕ → ℕ
  c = look net.capacities

  abbrev own : ℕ → ℕ
  own = (wholes net).owner

  -- a plan as the card speaks of it, and as the theory does
  fitting-is-whole : (fs : List Pair) → FittingWhole net fs → WholePlan ls n end c fs
  fitting-is-whole fs h = record { routes = h.plan; even = h.even; fits = h.fits }

  whole-is-fitting : (fs : List Pair) → WholePlan ls n end c fs → FittingWhole net fs
  whole-is-fitting fs w = record { plan = w.routes; even = w.even; fits = w.fits }

  -- whatever end sets, and whatever fitting plan in whole circuits: set sizes less odd pieces are no less than the total
  pub no_whole_plan_passes_any_sets : (owner : ℕ → ℕ) → EndSets n end owner → (fs : List Pair) → FittingWhole net fs
      → total fs + odd_pieces ls n c owner ≤ set_sizes ls n end c owner
  no_whole_plan_passes_any_sets owner sets fs h = no_sets_do_better T end c owner sets fs (fitting-is-whole fs h)

  -- the pairs of the loads taken
  abbrev taken : List Pair
  taken = pairs_by net (wholes net)

  pairs : PairsWhole ls n end c (look (wholes net).shown) own taken
  pairs = the_pairs_of_parts_of_whole_loads T (wholes_are_largest net T)

  pub whole_has_a_largest_plan : LargestPlan net (whole_says net)
  unfolding figures_say
  whole_has_a_largest_plan = record {
    printed_plan = whole-is-fitting taken pairs.plan;
    reached = refl;
    largest = λ fs h. pairs.largest fs (fitting-is-whole fs h);
    loaded = pairs.sound.loads;
    walked = refl;
    once = pairs.sound.once;
    few = pairs.sound.few;
    counted = refl;
  }

  -- the owners printed are those taken
  abbrev told : ℕ → ℕ
  told v = look (whole_says net).owners (v - 1)

  told-is-own : (x : ℕ) → Site n x → told x ≡ own x
  unfolding figures_say
  told-is-own = the_owner_told_is_the_owner n own

  told_sets : EndSets n end told
  told_sets =
      let sets = (wholes_are_largest net T).sets in
      record {
        own = λ a p e. told-is-own a p ∙ sets.own a p e;
        owned = λ x q. rw (told-is-own x q) (sets.owned x q);
      }

  sizes_less_pieces : size_sum (map (set_by (wholes net)) (ends_among end (sites n))) ≡ total taken + odd_pieces ls n c own
  unfolding set_sizes
  sizes_less_pieces = sizes_summed end (set_by (wholes net)) (sites n) ∙ pairs.sizes

  pub whole_has_its_sets : PrintedSets net (whole_says net)
  unfolding figures_say
  whole_has_its_sets = record {
    end_sets = told_sets;
    set_of_each_end = a_set_is_told_for_each_end net (wholes net);
    size_of_each_set = told_sets_are_owned T end c (wholes net) (record { sized = λ a p e. refl; counted = λ a p e. refl });
    one_line_of_pieces = ap (λ k. k ∷ []) (sym (odd_pieces_agree T c own told told-is-own));
    sizes_less_pieces = sizes_less_pieces;
    no_sets_do_better = λ owner sets. no_whole_plan_passes_any_sets owner sets taken (whole-is-fitting taken pairs.plan);
  }

pub whole_report_read_back : {ed : Edition} {s : List ℕ} {net : Network} → IsNetwork ed s net → read_report s net (whole_report s net) ≡ whole_says net
whole_report_read_back {ed} {s} {net} N = ap (read_report s net) (the_whole_report_shows_wholes net s)
    ∙ figures_read_back N (wholes net) (wholes_can_be_shown net N.tree)

pub the_whole_report_is_full : (known : List Edition) (s : List ℕ) (net : Network) → read_sheet known s ≡ accepted net
    → IsWholeReport known s (whole_report s net)
the_whole_report_is_full known s net read =
    let N = an_accepted_sheet_is_a_tree (edition_of known s) s net read in
    let said = whole_report_read_back N in
    record {
      net = net;
      read = read;
      network = N;
      text = refl;
      shows_the_sheet = rw said (figures_show_sheet net (wholes net));
      sizes = rw said (figures_show_usable_sizes known s net read (wholes net));
      names = the_whole_report_spells_names_as_given known s net read;
      has_a_largest_plan = rw said (whole_has_a_largest_plan net N.tree);
      is_in_order = rw said (figures_are_in_order N (wholes net) (wholes_can_be_shown net N.tree));
      has_its_sets = rw said (whole_has_its_sets net N.tree);
    }
