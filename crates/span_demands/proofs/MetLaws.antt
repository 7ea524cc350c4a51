-- The report of a range sheet keeps what Card 11 asks, for every sheet and every buffer. By monotonicity (theory_ranges), since the bytes read back say the
-- trimmed sizes and the largest totals of the low and of the high sizes.
use Rattle.std.specs.Prelude.{◌≡◌, refl, Bool, true, false, cond, List, ◌++◌, ℕ, leb, length, drop, take, Ok}
use Rattle.std.proofs.Math.Path.{sym, ap}
use Rattle.std.proofs.Common.{◌∙◌, take_at}
use Rattle.lists.specs.Sums.{contradiction}
use Rattle.model.specs.Edition.{ranges_low, ranges_high}
use Rattle.model.specs.Refusals.{refused_as}
use Rattle.theory_trees.proofs.Greatest.{balanced_has_each_link}
use Rattle.theory_ranges.specs.Ranges.{no_plan_has_a_greater_total, every_choice_is_balanced_within, every_choice_has_its_total_within}
use Rattle.theory_ranges.specs.Ranges.{the_low_ones_are_a_choice, the_high_ones_are_a_choice}
use Rattle.sheet.specs.OwnLines.{a_link_stands_on_its_own_line}
use Rattle.sheet.specs.Ranges.{Ranged, ReadAlike}
use Rattle.sheet.proofs.Ranges.{a_range_sheet_is_read_alike}
use Rattle.sheet.specs.Sheet.{Network, Read, refused, accepted, read_as}
use Rattle.sheet.specs.SheetTheorem.{IsNetwork, an_accepted_sheet_is_a_tree}
use Rattle.report.specs.Report.{report}
use Rattle.report.specs.Span.{trimmed_sizes, largest_total, span_report}
use Rattle.planner.specs.Outcome.{Planned, length_of, deliver}
use Rattle.spans.proofs.Ready.{the_two_networks}
use Rattle.spans.specs.Outcome.{network_of, span_read, spanned}
use Rattle.demands.specs.Printed.{is_end, read_report, bytes_told}
use Rattle.demands.specs.ReadBack.{figures_say}
use Rattle.demands.proofs.ReadBack.{report_read_back}
use Rattle.span_demands.specs.Printed.{read_span}
use Rattle.span_demands.specs.Asked.{with_sizes, SpanAsked, PlanNumbers}
use Rattle.span_demands.specs.ReadBack.{span_says}
use Rattle.span_demands.proofs.ReadBack.{the_span_is_read_back}

module _ (s : List ℕ) (low high : Network) (read_low : read_as ranges_low s ≡ accepted low) (read_high : read_as ranges_high s ≡ accepted high) where
  -- the two networks of a range sheet
  ranged : Ranged low high
  ranged = the_two_networks s low high read_low read_high

  lower : IsNetwork ranges_low s low
  lower = an_accepted_sheet_is_a_tree ranges_low s low read_low

  upper : IsNetwork ranges_high s high
  upper = an_accepted_sheet_is_a_tree ranges_high s high read_high

  -- the high sizes in the tree of the low ones
  high-sizes : trimmed_sizes high ≡ trimmed_sizes (with_sizes low high.capacities)
  unfolding trimmed_sizes
  high-sizes = rw (ranged.links, ranged.names, ranged.marks)

  high-total : largest_total high ≡ largest_total (with_sizes low high.capacities)
  unfolding largest_total trimmed_sizes
  high-total = rw (ranged.links, ranged.names, ranged.marks)

  each-high : length high.capacities ≡ length low.links
  each-high = upper.capacities ∙ ap length ranged.links

  each-trimmed : (c : List ℕ) → length (trimmed_sizes (with_sizes low c)) ≡ length low.links
  unfolding trimmed_sizes
  each-trimmed c = balanced_has_each_link lower.tree (is_end low) c

  -- what the report says is what is asked
  pub the_span_is_what_is_asked : SpanAsked s low (span_says low high)
  unfolding span_says trimmed_sizes largest_total
  the_span_is_what_is_asked = record {
    heading = refl;
    links = refl;
    lows = a_link_stands_on_its_own_line ranges_low s low read_low;
    highs = λ j l. rw ranged.links at (a_link_stands_on_its_own_line ranges_high s high read_high j (rw ranged.links l));
    trimmed-within = λ c w. let t = every_choice_is_balanced_within lower.tree (is_end low) low.capacities high.capacities c w in
        record { from-below = t.0; from-above = rw high-sizes t.1 };
    total-within = λ c w. let t = every_choice_has_its_total_within lower.tree (is_end low) low.capacities high.capacities c w in
        record { from-below = t.0; from-above = rw high-total t.1; largest = no_plan_has_a_greater_total lower.tree (is_end low) c };
    low-is-a-choice = the_low_ones_are_a_choice lower.tree (is_end low) low.capacities high.capacities lower.capacities (λ j l. ranged.below j);
    low_reaches_the_sizes = refl;
    low_reaches_the_total = refl;
    high-is-a-choice = the_high_ones_are_a_choice lower.tree (is_end low) low.capacities high.capacities each-high (λ j l. ranged.below j);
    high_reaches_the_sizes = sym high-sizes;
    high_reaches_the_total = sym high-total;
  }

  -- the bytes of the report say it
  pub the_report_says_the_span : read_span s low (span_report s low high) ≡ span_says low high
  the_report_says_the_span = the_span_is_read_back lower high each-high (each-trimmed low.capacities) (ap length high-sizes
      ∙ each-trimmed high.capacities)

  -- equal low and high sizes give the numbers of the report headed `plan`
  pub equal_sizes_give_the_numbers_of_the_plan : low.capacities ≡ high.capacities
      → PlanNumbers (read_span s low (span_report s low high)) (read_report s low (report s low))
  unfolding span_says figures_say largest_total trimmed_sizes
  equal_sizes_give_the_numbers_of_the_plan e =
      let sizes : trimmed_sizes high ≡ trimmed_sizes low = high-sizes ∙ ap (λ c. trimmed_sizes (with_sizes low c)) (sym e) in
      let totals : largest_total high ≡ largest_total low = high-total ∙ ap (λ c. largest_total (with_sizes low c)) (sym e) in
      rw (the_report_says_the_span, report_read_back lower) (record { least = refl; greatest = totals; leasts = refl; greatests = sizes })

-- ---- what is printed

-- a report that is told is the report
bytes-told : (r b : List ℕ) (n : ℕ) → (deliver r b).outcome ≡ Ok n → bytes_told (deliver r b) ≡ r
unfolding deliver bytes_told
bytes-told r b n e = by (leb (length r) (length b)) e
  where
    by : (t : Bool) → let p = cond {A = Planned} t (record { outcome = Ok (length r); buffer = r ++ drop (length r) b })
        (record { outcome = refused_as 9 0; buffer = b }) in
        p.outcome ≡ Ok n → take (length_of p.outcome) p.buffer ≡ r
    by true q = take_at r (drop (length r) b) (length r) refl
    by false q = contradiction cc

-- for every range sheet and every buffer: where a report is told, its bytes keep what is asked, in the sites and links of the sheet
pub what_is_printed_is_what_is_asked : (s b : List ℕ) (n : ℕ) → (spanned s b).outcome ≡ Ok n
    → (net : Network) × (read_as ranges_low s ≡ accepted net) × SpanAsked s net (read_span s net (bytes_told (spanned s b)))
unfolding spanned span_read network_of
what_is_printed_is_what_is_asked s b n e = by (read_as ranges_low s) (read_as ranges_high s) refl refl (a_range_sheet_is_read_alike s) e
  where
    by : (v w : Read) → read_as ranges_low s ≡ v → read_as ranges_high s ≡ w → ReadAlike v w → (span_read s b v w).outcome ≡ Ok n
        → (net : Network) × (v ≡ accepted net) × SpanAsked s net (read_span s net (bytes_told (span_read s b v w)))
    by (refused k l) w p q h e = contradiction cc
    by (accepted low) (refused k l) p q h e = contradiction (let z = h.1 in cc)
    by (accepted low) (accepted high) p q h e =
        (low, refl, rw (bytes-told (span_report s low high) b n e, the_report_says_the_span s low high p q) (the_span_is_what_is_asked s low high p q))
