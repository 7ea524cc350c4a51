-- The report of an accepted sheet, read back: its bytes say just the figures that it shows. For either report.
-- Each field of each line is the field that was written; a name leads to its own site, a decimal to its number.
use Rattle.std.specs.Prelude.{ℕ, length}
use mathlib.Core.List.{List, [], map}
use Rattle.lists.specs.Numbers.{is, look}
use Rattle.model.specs.Flows.{sites, total}
use Rattle.model.specs.declared.Edition.{Edition}
use Rattle.sheet.specs.Sheet.{Network}
use Rattle.sheet.specs.SheetTheorem.{IsNetwork}
use Rattle.planner.specs.Figures.{Figures, halves, pairs_by, Showable}
use Rattle.demands.specs.Printed.{is_end, ends_among, Printed}
use Rattle.demands.specs.Sets.{set_by}

-- what a report says that shows figures of a network
unfoldable pub figures_say : Network → Figures → Printed
figures_say net f =
    let n = length net.names in
    let pairs = pairs_by net f in
    record {
      heading = f.word;
      total = total pairs;
      pair_count = length pairs;
      links = net.links;
      sizes = net.capacities;
      shown = f.shown;
      sites = sites n;
      owners = map f.owner (sites n);
      dashes = map (λ x. is (f.owner x) 0) (sites n);
      sets = map (set_by f) (ends_among (is_end net) (sites n));
      pieces = f.pieces;
      plan = pairs;
    }

module _ {ed : Edition} {s : List ℕ} {net : Network} (N : IsNetwork ed s net) (f : Figures) (h : Showable net f) where
  abbrev pub n : ℕ
  n = length net.names

  abbrev pub x : ℕ → ℕ
  x = look f.shown

-- ---- in halves

-- what the report of a network says: the plan of the network
abbrev pub plan_says : Network → Printed
plan_says net = figures_say net (halves net)
