-- The report of an accepted range sheet, read back: its bytes say just the span that it shows. Each field of each line is the field that was written.
use Rattle.std.specs.Prelude.{◌≡◌, ℕ, ◌-◌, ◌<◌, length, get_or}
use Rattle.std.proofs.Math.Path.{refl, ap}
use Rattle.std.proofs.Common.{sym, ◌∙◌}
use mathlib.Core.List.{List, [], ◌∷◌, map}
use native.Mathlib.Omega.{arith}
use Rattle.std.proofs.lemmas.List.{length-map}
use Rattle.std.proofs.Math.ListN.{get_or-map}
use Rattle.lists.specs.Maps.{map-map}
use Rattle.lists.specs.Numbers.{look, upfrom}
use Rattle.model.specs.Flows.{one, two}
use Rattle.model.specs.Text.{bytes}
use Rattle.model.specs.declared.Edition.{Edition}
use Rattle.sheet_kinds.specs.LineKinds.{same, field, value}
use Rattle.sheet.specs.Sheet.{Network}
use Rattle.sheet.specs.SheetTheorem.{IsNetwork}
use Rattle.sheet_names.specs.Names.{name_at}
use Rattle.report.specs.Report.{decimal}
use Rattle.report.specs.Span.{trimmed_sizes, largest_total, span_of, span_text, span_report}
use Rattle.demands.specs.Lists.{map-places}
use Rattle.demands.specs.Names.{name_read_back, site-name-is-plain}
use Rattle.demands.specs.Parsing.{decimal_read_back}
use Rattle.demands.specs.Printed.{Record, records, headed, site_named}
use Rattle.span_demands.specs.Printed.{read_span_records, read_span}
use Rattle.span_demands.specs.ReadBack.{span_says, range_fields, first-line, link-lines, p, ls}

module _ {ed : Edition} {s : List ℕ} {low : Network} (N : IsNetwork ed s low) (high : Network)
    (highs : length high.capacities ≡ length low.links) (leasts : length (trimmed_sizes low) ≡ length low.links)
    (greatests : length (trimmed_sizes high) ≡ length low.links) where
  abbrev site : List ℕ → ℕ
  site = site_named s low

  abbrev name : ℕ → List ℕ
  name v = name_at s low.names (v - 1)

  module _ {B : Type 0} (g : Record → B) where
    by_link : (l : List B) (d : B) → length (ls N high highs leasts greatests) ≡ length l
        → ((j : ℕ) → j < length (ls N high highs leasts greatests) → g (bytes "L" ∷ name (one (ls N high highs leasts greatests) j) ∷ name (two (ls N high highs leasts greatests) j) ∷ decimal (look low.capacities j)
        ∷ decimal (look high.capacities j) ∷ decimal (look (trimmed_sizes low) j) ∷ decimal (look (trimmed_sizes high) j) ∷ []) ≡ get_or l j d)
        → map g (headed (bytes "L") (records (span_text (p N high highs leasts greatests)))) ≡ l
    unfolding span_of
    by_link l d e same =
        ap (map g) (link-lines (p N high highs leasts greatests) (site-name-is-plain N))
        ∙ map-map g (range_fields (p N high highs leasts greatests) (site-name-is-plain N)) (upfrom 0 (length (p N high highs leasts greatests).ones))
        ∙ rw (length-map (ls N high highs leasts greatests) (λ r. r.0) ∙ e) (map-places l d (λ j. g (range_fields (p N high highs leasts greatests) (site-name-is-plain N) j))
        (λ j k. rw (get_or-map (λ r. r.0) (ls N high highs leasts greatests) j (0, 0), get_or-map (λ r. r.1) (ls N high highs leasts greatests) j (0, 0)) (same j (omega arith))))

  -- the bytes of the report say what it shows
  pub the_span_is_read_back : read_span s low (span_report s low high) ≡ span_says low high
  unfolding read_span read_span_records span_says span_report span_of
  the_span_is_read_back =
      let first = first-line (p N high highs leasts greatests) (site-name-is-plain N) in
      λ i. record {
        heading = ap (λ l. field l 0) first i;
        least = (ap (λ l. value (field l 1)) first ∙ decimal_read_back (largest_total low)) i;
        greatest = (ap (λ l. value (field l 2)) first ∙ decimal_read_back (largest_total high)) i;
        links = by_link (λ l. (site (field l 1), site (field l 2))) (ls N high highs leasts greatests) (0, 0) refl
            (λ j k. rw (name_read_back N (one (ls N high highs leasts greatests) j) (N.tree.ends j k).0, name_read_back N (two (ls N high highs leasts greatests) j) (N.tree.ends j k).1)) i;
        lows = by_link (λ l. value (field l 3)) low.capacities 0 (sym N.capacities) (λ j k. decimal_read_back _) i;
        highs = by_link (λ l. value (field l 4)) high.capacities 0 (sym highs) (λ j k. decimal_read_back _) i;
        leasts = by_link (λ l. value (field l 5)) (trimmed_sizes low) 0 (sym leasts) (λ j k. decimal_read_back _) i;
        greatests = by_link (λ l. value (field l 6)) (trimmed_sizes high) 0 (sym greatests) (λ j k. decimal_read_back _) i;
      }
