-- The report of an accepted range sheet, read back: its bytes say just the span that it shows. Each field of each line is the field that was written.
use Rattle.std.specs.Prelude.{◌≡◌, ℕ, ◌-◌, length, get_or}
use Rattle.std.proofs.Math.Path.{refl, ap}
use Rattle.std.proofs.Common.{sym, ◌∙◌}
use Rattle.std.proofs.Math.Bool.{true}
use mathlib.Core.List.{List, [], ◌∷◌, ◌++◌, map, flat_map, append-nil}
use native.Mathlib.Omega.{arith}
use Rattle.lists.specs.Numbers.{look, upfrom}
use Rattle.model.specs.Text.{bytes}
use Rattle.model.specs.declared.Edition.{Edition}
use Rattle.sheet_kinds.specs.LineKinds.{same}
use Rattle.sheet.specs.Sheet.{Network}
use Rattle.sheet.specs.SheetTheorem.{IsNetwork}
use Rattle.report.specs.Report.{decimal, lines}
use Rattle.report.specs.Span.{Span, trimmed_sizes, largest_total, span_of, span_record, range_record, range_line, span_text}
use Rattle.demands.specs.Parsing.{Plain, line_read_back, lines_read_back, decimal-plain, headed_parts}
use Rattle.demands.specs.Printed.{Record, records, lines_of, headed}
use Rattle.demands.specs.Records.{singles}
use Rattle.span_demands.specs.Printed.{PrintedSpan}

-- what a report says that shows the span of two networks
unfoldable pub span_says : Network → Network → PrintedSpan
span_says low high = record {
  heading = bytes "span";
  least = largest_total low;
  greatest = largest_total high;
  links = low.links;
  lows = low.capacities;
  highs = high.capacities;
  leasts = trimmed_sizes low;
  greatests = trimmed_sizes high;
}

module _ (p : Span) (plain : (v : ℕ) → Plain (p.names v)) where
  -- the fields of the lines
  abbrev pub head_fields : Record
  head_fields = bytes "span" ∷ decimal p.least ∷ decimal p.greatest ∷ []

  abbrev pub range_fields : ℕ → Record
  range_fields j =
      bytes "L" ∷ p.names (look p.ones j) ∷ p.names (look p.twos j) ∷ decimal (look p.lows j) ∷ decimal (look p.highs j)
      ∷ decimal (look p.leasts j) ∷ decimal (look p.greatests j) ∷ []

  abbrev rows : List Record
  rows = flat_map (λ j. range_fields j ∷ []) (upfrom 0 (length p.ones))

  head-back : (x : List ℕ) → records (span_record p.least p.greatest ++ x) ≡ head_fields ∷ records x
  unfolding span_record
  head-back x = line_read_back _ _ (omega arith, (decimal-plain _, (decimal-plain _, tt))) x

  range_back : (j : ℕ) (x : List ℕ)
      → records (range_line p.names p.ones p.twos p.lows p.highs p.leasts p.greatests j ++ x) ≡ range_fields j ∷ records x
  unfolding range_line range_record
  range_back j x = line_read_back _ _
      (omega arith, (plain _, (plain _, (decimal-plain _, (decimal-plain _, (decimal-plain _, (decimal-plain _, tt))))))) x

  -- all lines of the report, in order
  span_back : records (span_text p) ≡ head_fields ∷ rows
  unfolding span_text records lines_of
  span_back =
      let ls = lines (range_line p.names p.ones p.twos p.lows p.highs p.leasts p.greatests) (upfrom 0 (length p.ones)) in
      head-back ls
      ∙ ap (λ y. head_fields ∷ y) (ap records (sym (append-nil ls))
      ∙ lines_read_back _ (λ j. range_fields j ∷ []) range_back (upfrom 0 (length p.ones)) [] ∙ append-nil rows)

  pub first-line : get_or (records (span_text p)) 0 [] ≡ head_fields
  first-line = ap (λ y. get_or y 0 []) span_back

  pub link-lines : headed (bytes "L") (records (span_text p)) ≡ map range_fields (upfrom 0 (length p.ones))
  unfolding headed same
  link-lines =
      ap (headed (bytes "L")) span_back
      ∙ headed_parts (bytes "L") (λ j. range_fields j ∷ []) true (λ j. refl) (upfrom 0 (length p.ones))
      ∙ singles range_fields (upfrom 0 (length p.ones))

module _ {ed : Edition} {s : List ℕ} {low : Network} (N : IsNetwork ed s low) (high : Network)
    (highs : length high.capacities ≡ length low.links) (leasts : length (trimmed_sizes low) ≡ length low.links)
    (greatests : length (trimmed_sizes high) ≡ length low.links) where
  abbrev pub p : Span
  p = span_of s low high

  abbrev pub ls : List (ℕ × ℕ)
  ls = low.links
