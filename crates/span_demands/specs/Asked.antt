-- What is asked of the report of a range sheet. Document 02, Card 11: for every choice of sizes in the ranges, total and trimmed sizes lie within what is
-- printed, and both ends of each are reached by some choice.
use Rattle.std.specs.Prelude.{◌≡◌, List, ℕ, ◌*◌, ◌≤◌, ◌<◌, length, get_or}
use Rattle.lists.specs.Numbers.{look}
use Rattle.model.specs.Edition.{ranges_low, ranges_high}
use Rattle.model.specs.Flows.{Fits, total}
use Rattle.model.specs.Text.{bytes}
use Rattle.model.specs.declared.Pair.{Pair}
use Rattle.theory_ranges.specs.Ranges.{Choice}
use Rattle.sheet.specs.OwnLines.{OwnLinkLine}
use Rattle.sheet.specs.Sheet.{Network}
use Rattle.report.specs.Span.{trimmed_sizes, largest_total}
use Rattle.demands.specs.Printed.{IsPlan, site_count, is_end, Printed}
use Rattle.span_demands.specs.Printed.{PrintedSpan}

-- a network with other sizes for its links
abbrev pub with_sizes : Network → List ℕ → Network
with_sizes net c = record { names = net.names; marks = net.marks; links = net.links; capacities = c }

-- c is a choice of whole sizes in the printed ranges
abbrev pub IsChoice : PrintedSpan → List ℕ → Type 0
IsChoice p c = Choice p.links p.lows p.highs c

-- the trimmed sizes of a choice lie within the printed ones, link by link
pub record TrimmedWithin (net : Network) (p : PrintedSpan) (c : List ℕ) : Type 0 where
  pub from-below : (j : ℕ) → j < length p.links → look p.leasts j ≤ look (trimmed_sizes (with_sizes net c)) j
  pub from-above : (j : ℕ) → j < length p.links → look (trimmed_sizes (with_sizes net c)) j ≤ look p.greatests j

-- its largest total lies within the printed ones: that total is the one of the report headed `plan` (report/Span), and no plan that fits, however finely cut,
-- has a greater one
pub record TotalWithin (net : Network) (p : PrintedSpan) (c : List ℕ) : Type 0 where
  pub from-below : p.least ≤ largest_total (with_sizes net c)
  pub from-above : largest_total (with_sizes net c) ≤ p.greatest
  pub largest : (plan : List Pair) → IsPlan net.links (site_count net) (is_end net) plan → (parts : ℕ) → Fits net.links parts (look c) plan
      → 2 * total plan ≤ parts * largest_total (with_sizes net c)

-- what is asked of what a report says, on the range sheet s with the sites and links of net
pub record SpanAsked (s : List ℕ) (net : Network) (p : PrintedSpan) : Type 0 where
  pub heading : p.heading ≡ bytes "span"
  -- the links in sheet order, and for each the numbers of its own line
  pub links : p.links ≡ net.links
  pub lows : (j : ℕ) → j < length p.links → OwnLinkLine ranges_low s j (get_or p.links j (0, 0)) (look p.lows j)
  pub highs : (j : ℕ) → j < length p.links → OwnLinkLine ranges_high s j (get_or p.links j (0, 0)) (look p.highs j)
  -- for every choice
  pub trimmed-within : (c : List ℕ) → IsChoice p c → TrimmedWithin net p c
  pub total-within : (c : List ℕ) → IsChoice p c → TotalWithin net p c
  -- the least ones are all reached by the low sizes, the greatest ones all by the high sizes
  pub low-is-a-choice : IsChoice p p.lows
  pub low_reaches_the_sizes : trimmed_sizes (with_sizes net p.lows) ≡ p.leasts
  pub low_reaches_the_total : largest_total (with_sizes net p.lows) ≡ p.least
  pub high-is-a-choice : IsChoice p p.highs
  pub high_reaches_the_sizes : trimmed_sizes (with_sizes net p.highs) ≡ p.greatests
  pub high_reaches_the_total : largest_total (with_sizes net p.highs) ≡ p.greatest

-- a report headed `span` gives the numbers of a report headed `plan`
pub record PlanNumbers (p : PrintedSpan) (q : Printed) : Type 0 where
  pub least : p.least ≡ q.total
  pub greatest : p.greatest ≡ q.total
  pub leasts : p.leasts ≡ q.shown
  pub greatests : p.greatests ≡ q.shown
