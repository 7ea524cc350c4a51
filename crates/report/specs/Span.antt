-- The report of a range sheet: its bytes. Document 02, Card 11: `span`, least and greatest total in halves; then for each link, in sheet order, `L`, its
-- names, low, high, least and greatest trimmed size.
use Rattle.std.specs.Prelude.{List, [], ◌∷◌, ◌++◌, map, ℕ, ◌-◌, length, get_or}
use Rattle.lists.specs.Numbers.{look, upfrom}
use Rattle.model.specs.Flows.{total}
use Rattle.model.specs.Parts.{pair_list_of_parts}
use Rattle.model.specs.Trimming.{balanced}
use Rattle.model.specs.Text.{bytes}
use Rattle.sheet.specs.Sheet.{Network, ends_of, part}
use Rattle.report.specs.Report.{decimal, line, lines}

-- ---- what the report shows

-- places are link positions from 0
pub record Span : Type 0 where
  pub names : ℕ → List ℕ
  pub ones : List ℕ
  pub twos : List ℕ
  pub lows : List ℕ
  pub highs : List ℕ
  pub leasts : List ℕ
  pub greatests : List ℕ
  pub least : ℕ
  pub greatest : ℕ

-- the trimmed sizes of a network (01), and the largest total, in halves: that of the pair list of the report headed `plan`
unfoldable pub trimmed_sizes : Network → List ℕ
trimmed_sizes net = balanced net.links (length net.names) (look (ends_of net)) net.capacities

unfoldable pub largest_total : Network → ℕ
largest_total net = total (pair_list_of_parts net.links (length net.names) (look (trimmed_sizes net)) (look (ends_of net)))

-- what is shown of two networks, one with the low sizes of a range sheet s and one with its high sizes: the trimmed sizes and the largest totals of both
unfoldable pub span_of : List ℕ → Network → Network → Span
span_of s low high = record {
  names = λ v. part s (get_or low.names (v - 1) (0, 0));
  ones = map (λ l. l.0) low.links;
  twos = map (λ l. l.1) low.links;
  lows = low.capacities;
  highs = high.capacities;
  leasts = trimmed_sizes low;
  greatests = trimmed_sizes high;
  least = largest_total low;
  greatest = largest_total high;
}

-- ---- its lines

-- the heading: `span`, least and greatest total in halves
unfoldable pub span_record : ℕ → ℕ → List ℕ
span_record least greatest = line (bytes "span" ∷ decimal least ∷ decimal greatest ∷ [])

-- `L`: names, low, high, least and greatest trimmed size
unfoldable pub range_record : (ℕ → List ℕ) → ℕ → ℕ → ℕ → ℕ → ℕ → ℕ → List ℕ
range_record name a b low high least greatest =
    line (bytes "L" ∷ name a ∷ name b ∷ decimal low ∷ decimal high ∷ decimal least ∷ decimal greatest ∷ [])

unfoldable pub range_line : (ℕ → List ℕ) → List ℕ → List ℕ → List ℕ → List ℕ → List ℕ → List ℕ → ℕ → List ℕ
range_line name ones twos lows highs leasts greatests j =
    range_record name (look ones j) (look twos j) (look lows j) (look highs j) (look leasts j) (look greatests j)

-- the report headed `span`
unfoldable pub span_text : Span → List ℕ
span_text p =
    span_record p.least p.greatest
    ++ lines (range_line p.names p.ones p.twos p.lows p.highs p.leasts p.greatests) (upfrom 0 (length p.ones))

-- the report of two networks whose names stand in the sheet s
unfoldable pub span_report : List ℕ → Network → Network → List ℕ
span_report s low high = span_text (span_of s low high)
