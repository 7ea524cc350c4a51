-- What is asked of the report headed `whole`, stated, of a network and of what is printed for it. Document 02, Card 2: plans in whole circuits.
-- That it all holds is in `WholeDemands`; refusals, buffers, the length and 9 are in demand 1 (`Asked`), which is asked of either report.
-- What a plan is, and how a report is read off its bytes, is in `Printed`; load, fits and total are in `Flows`, the walk on each part
-- (`pairListOfParts`) in `Parts`,
-- sets and pieces (`EndSets`, `setSizes`, `oddPieces`) in `Whole`.
use Rattle.std.specs.Prelude.{◌≡◌, List, [], ◌∷◌, map, ℕ, ◌+◌, ◌*◌, ◌≤◌, ◌<◌, length}
use Rattle.lists.specs.Numbers.{count, look, Each}
use Rattle.model.specs.Flows.{Fits, sites, load, total}
use Rattle.model.specs.Parts.{pair_list_of_parts}
use Rattle.model.specs.Text.{bytes}
use Rattle.model.specs.Whole.{Even, EndSets, set_sizes, odd_pieces}
use Rattle.model.specs.declared.Edition.{Edition}
use Rattle.model.specs.declared.Pair.{Pair}
use Rattle.theory_walk.specs.Sound.{arises}
use Rattle.sheet.specs.Sheet.{Network, accepted, read_sheet, edition_of}
use Rattle.sheet.specs.SheetTheorem.{IsNetwork}
use Rattle.report.specs.Report.{whole_report}
use Rattle.demands.specs.Printed.{IsPlan, site_count, is_end, ends_among, Printed, read_report, printed_load, printed_owner, set_size, size_sum}
use Rattle.demands.specs.Asked.{ShowsSheet, SizesAsGiven, NamesAsGiven, InOrder}

-- a plan in whole circuits that fits the usable sizes (02: a fitting plan whose amounts are all even in halves)
pub record FittingWhole (net : Network) (fs : List Pair) : Type 0 where
  pub plan : IsPlan net.links (site_count net) (is_end net) fs
  pub even : Each (λ e. Even e.amount) fs
  pub fits : Fits net.links 2 (look net.capacities) fs

-- the printed plan
pub record LargestPlan (net : Network) (p : Printed) : Type 0 where
  -- the printed pairs are a fitting plan whose amounts are all even in halves
  pub printed_plan : FittingWhole net p.plan
  -- its total is the heading's, the largest among such plans
  pub reached : total p.plan ≡ p.total
  pub largest : (fs : List Pair) → FittingWhole net fs → total fs ≤ p.total
  -- `L` lines show the load in place of the trimmed size: in circuits, so that the load of the printed plan, in halves, is twice the printed one on every link
  pub loaded : (j : ℕ) → j < length net.links → load net.links p.plan j ≡ 2 * printed_load p j
  -- given the loads, pairs follow 01's walk on each part, with loads in the place of trimmed sizes
  pub walked : p.plan ≡ pair_list_of_parts net.links (site_count net) (printed_load p) (is_end net)
  -- each pair once, and at most one pair a link; the pair count is the number of `P` lines
  pub once : (x y : ℕ) → arises p.plan x y ≤ 1
  pub few : length p.plan ≤ length net.links
  pub counted : p.pair_count ≡ length p.plan

-- the number of odd pieces of the printed sets: over the printed links, sizes and owners (02: the count of odd pieces)
abbrev pub printed_odd : Network → Printed → ℕ
printed_odd net p = odd_pieces p.links (site_count net) (look p.sizes) (printed_owner p)

-- the printed sets and the line `Q`
pub record PrintedSets (net : Network) (p : Printed) : Type 0 where
  -- `N` lines show disjoint end sets, each with its own end and no other end: one owner a site, and an end's owner is the end
  pub end_sets : EndSets (site_count net) (is_end net) (printed_owner p)
  -- the `X` lines are those of the ends, with the size and the count of the printed set
  pub set_of_each_end : map (λ x. x.end) p.sets ≡ ends_among (is_end net) (sites (site_count net))
  pub size_of_each_set : Each (λ x. (x.size ≡ set_size p x.end) × (x.count ≡ count p.owners x.end)) p.sets
  -- one line `Q` gives the count of odd pieces
  pub one_line_of_pieces : p.pieces ≡ printed_odd net p ∷ []
  -- set sizes less odd pieces equal the heading's total
  pub sizes_less_pieces : size_sum p.sets ≡ p.total + look p.pieces 0
  -- and no end sets whatever have sizes that, less their odd pieces, come below it (004, theorem 2)
  pub no_sets_do_better : (owner : ℕ → ℕ) → EndSets (site_count net) (is_end net) owner
      → p.total + odd_pieces net.links (site_count net) (look net.capacities) owner
      ≤ set_sizes net.links (site_count net) (is_end net) (look net.capacities) owner

-- the bytes r are the full report in whole circuits on the sheet s: that of its network, a tree; they show the sheet, with the usable sizes of its
-- links, and all that the card asks
pub record IsWholeReport (known : List Edition) (s r : List ℕ) : Type 0 where
  pub net : Network
  pub read : read_sheet known s ≡ accepted net
  pub network : IsNetwork (edition_of known s) s net
  pub text : r ≡ whole_report s net
  pub shows_the_sheet : ShowsSheet (bytes "whole") net (read_report s net r)
  pub sizes : SizesAsGiven known s net (read_report s net r)
  pub names : NamesAsGiven known s net r
  pub has_a_largest_plan : LargestPlan net (read_report s net r)
  pub is_in_order : InOrder net (read_report s net r)
  pub has_its_sets : PrintedSets net (read_report s net r)
