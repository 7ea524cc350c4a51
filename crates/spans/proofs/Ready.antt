-- What stands ready on the way to the report of a range sheet: the networks of an accepted sheet with its low and with its high sizes, as lists and taken
-- apart; what is worked out of them is the span, and can be written.
use Rattle.std.specs.Prelude.{◌≡◌, true, List, map, ◌++◌, leb, take, ◌≢◌, Ok, Err}
use Rattle.std.proofs.Math.Path.{refl, sym, ap}
use Rattle.std.proofs.Common.{subst, ◌∙◌, le-leb}
use Prim.Native.Nat.{ℕ, suc, ◌+◌, ◌*◌, ◌≤◌, ◌<◌}
use native.Mathlib.Omega.{arith}
use Rattle.std.proofs.Math.ListN.{length, length-map, get_or-map}
use Rattle.lists.specs.Numbers.{look}
use Rattle.lists.specs.Sums.{contradiction}
use Rattle.model.specs.Edition.{largest, ranges_low, ranges_high}
use Rattle.model.specs.Flows.{one, two, ends, at_terminals}
use Rattle.model.specs.Limits.{LINKS, REPORT, SITES, SIZE}
use Rattle.model.specs.Trimming.{balanced}
use Rattle.model.specs.declared.Edition.{Edition}
use Rattle.model.specs.declared.Refusal.{Refusal}
use Rattle.theory_trees.proofs.Greatest.{balanced_is_greatest, balanced_has_each_link}
use Rattle.theory_ranges.specs.Ranges.{the_largest_total_is_the_sum_at_the_terminals}
use Rattle.theory_regions.specs.Regions.{own}
use Rattle.tree.specs.Accepted.{MarkedTree}
use Rattle.tree.specs.Offer.{links}
use Rattle.trimming.specs.Outcome.{capacities}
use Rattle.region_sizes.specs.Laws.{the_front_is_trimmed, without-a-far-site}
use Rattle.text_fields.specs.FieldLaws.{name-length}
use Rattle.sheet.specs.Ranges.{Ranged, ReadAlike}
use Rattle.sheet.proofs.Ranges.{a_range_sheet_is_read_alike}
use Rattle.sheet.specs.Reading.{lists, reading}
use Rattle.sheet.specs.Sheet.{Network, ends_of, Read, refused, accepted, read_as}
use Rattle.sheet.specs.SheetTheorem.{IsNetwork, an_accepted_sheet_is_a_tree}
use Rattle.sheet.specs.declared.Lists.{Lists}
use Rattle.report.specs.Length.{SmallSpan, a_small_span_has_a_small_report}
use Rattle.report.specs.Span.{trimmed_sizes, largest_total, span_of, span_text, span_report}
use Rattle.report.specs.SpanShown.{span_by, Ranges}
use Rattle.planner.specs.Figures.{halves, halves_can_be_shown}
use Rattle.planner.specs.Outcome.{deliver}
use Rattle.planner.specs.Shows.{names}
use Rattle.planner.specs.Small.{name-or-nothing, few_links, total-shown-within}
use Rattle.planner.specs.Taken.{padded-length, padded-front, links-again}
use Rattle.planner.specs.Works.{named_site}
use Rattle.spans.specs.Outcome.{network_of, span_read, spanned}
use Rattle.spans.specs.Ready.{Apart, Listed, m, n, sizes_of, total_by}

-- an accepted range sheet is a tree within the limits of the largest edition
pub within_the_largest : (ed : Edition) (s : List ℕ) (net : Network) → ed.sites ≤ SITES → ed.size ≤ SIZE → read_as ed s ≡ accepted net → IsNetwork largest s net
within_the_largest ed s net few small e =
    let N = an_accepted_sheet_is_a_tree ed s net e in
    record {
      tree = N.tree;
      few = omega (arith, N.few);
      capacities = N.capacities;
      sizes = λ j l. omega (arith, N.sizes j l);
      marks = N.marks;
      marked = N.marked;
      names = N.names;
      different = N.different;
    }

module _ {s : List ℕ} {low high : Lists} (r : Listed s low high) where
  lower-given : IsNetwork largest s r.lower
  lower-given = within_the_largest ranges_low s r.lower (omega arith) (omega arith) r.read_low

  upper_given : IsNetwork largest s r.upper
  upper_given = within_the_largest ranges_high s r.upper (omega arith) (omega arith) r.read_high

  -- as many high sizes as links
  each-high : length r.upper.capacities ≡ length r.lower.links
  each-high = upper_given.capacities ∙ ap length r.ranged.links

  firsts_length : length (map (λ l. l.0) r.lower.links) ≡ length r.lower.links
  firsts_length = length-map r.lower.links (λ l. l.0)

  seconds_length : length (map (λ l. l.1) r.lower.links) ≡ length r.lower.links
  seconds_length = length-map r.lower.links (λ l. l.1)

  -- there is a place for each link, and for the mark of each site
  pub room_for_the_links : (m r ≤ length low.one) × (m r ≤ length low.two) × (n r ≤ length low.mark) × (m r ≤ length low.capacity)
      × (m r ≤ length high.capacity)
  unfolding lists
  room_for_the_links =
      let few : length r.lower.links ≤ LINKS = omega (arith, lower-given.tree.links, lower-given.few) in
      rw (r.low-listed, r.high-listed) (
        omega (arith, padded-length SITES (map (λ l. l.0) r.lower.links) (omega (arith, firsts_length))),
        omega (arith, padded-length SITES (map (λ l. l.1) r.lower.links) (omega (arith, seconds_length))),
        omega (arith, padded-length SITES r.lower.marks (omega (arith, lower-given.marks, lower-given.few)), lower-given.few),
        omega (arith, padded-length SITES r.lower.capacities (omega (arith, lower-given.capacities))),
        omega (arith, padded-length SITES r.upper.capacities (omega (arith, each-high))),
      )

  pub the_lists_are_taken_apart : Apart s low.start low.end (n r) (take (m r) low.one) (take (m r) low.two) (take (n r) low.mark) (take (m r) low.capacity)
      (take (m r) high.capacity)
  unfolding lists
  the_lists_are_taken_apart = rw (r.low-listed, r.high-listed) (record {
    lower = r.lower;
    upper = r.upper;
    read_low = r.read_low;
    read_high = r.read_high;
    ranged = r.ranged;
    started = refl;
    stopped = refl;
    counted = refl;
    firsts = padded-front SITES (length r.lower.links) (map (λ l. l.0) r.lower.links) firsts_length;
    seconds = padded-front SITES (length r.lower.links) (map (λ l. l.1) r.lower.links) seconds_length;
    marked = padded-front SITES (length r.lower.names) r.lower.marks lower-given.marks;
    lows = padded-front SITES (length r.lower.links) r.lower.capacities lower-given.capacities;
    highs = padded-front SITES (length r.lower.links) r.upper.capacities each-high;
  })

-- an accepted sheet's lists
pub accepted_is_listed : (s : List ℕ) (low : Lists) (sizes : List ℕ) → Ok low ≡ reading (read_as ranges_low s)
    → Ok sizes ≡ sizes_of (reading (read_as ranges_high s)) → (high : Lists) × (sizes ≡ high.capacity) × Listed s low high
unfolding reading
accepted_is_listed s low sizes e f = by (read_as ranges_low s) (read_as ranges_high s) refl refl (a_range_sheet_is_read_alike s) e f
  where
    by : (v w : Read) → read_as ranges_low s ≡ v → read_as ranges_high s ≡ w → ReadAlike v w → Ok low ≡ reading v → Ok sizes ≡ sizes_of (reading w)
        → (high : Lists) × (sizes ≡ high.capacity) × Listed s low high
    by (refused n k) w p q h e f = contradiction cc
    by (accepted lower) (refused n k) p q h e f = contradiction cc
    by (accepted lower) (accepted upper) p q h e f =
        let same : upper ≡ h.0 = (let z = h.1 in cc) in (
          lists upper,
          cc,
          record { lower = lower; upper = upper; read_low = p; read_high = q; ranged = rw same h.2; low-listed = (cc); high-listed = refl },
        )

-- a refused sheet is refused with the same number and line, and the buffer stays
pub refused_is_told : (s b : List ℕ) (r : Refusal) → Err r ≡ reading (read_as ranges_low s) → spanned s b ≡ record { outcome = Err r; buffer = b }
unfolding reading spanned span_read
refused_is_told s b r e = by (read_as ranges_low s) e
  where
    by : (v : Read) → Err r ≡ reading v → span_read s b v (read_as ranges_high s) ≡ record { outcome = Err r; buffer = b }
    by (refused m l) e = let p : r ≡ record { number = m; line = l } = cc in rw p refl
    by (accepted net) e = contradiction cc

-- where the low sizes are accepted, the high ones are not refused
pub none_is_refused_for_its_high_sizes : (s : List ℕ) (low : Lists) (r : Refusal) → Ok low ≡ reading (read_as ranges_low s)
    → Err r ≢ sizes_of (reading (read_as ranges_high s))
unfolding reading
none_is_refused_for_its_high_sizes s low r e f = by (read_as ranges_low s) (read_as ranges_high s) (a_range_sheet_is_read_alike s) e f
  where
    by : (v w : Read) → ReadAlike v w → Ok low ≡ reading v → Err r ≡ sizes_of (reading w) → ⊥
    by (refused n k) w h e f = contradiction cc
    by (accepted lower) w h e f = contradiction (let z = h.1 in cc)

module _ {n : ℕ} {one two marks c : List ℕ} (w : MarkedTree largest n one two marks c) (list-of-ends : List ℕ)
    (ended : look list-of-ends ≡ look (ends (links one two) n marks)) where
  -- by the ends of a tree its trimmed sizes stand at the front of a list
  pub the_front_is_worked_out : (rest list : List ℕ) → list ≡ balanced (links one two) n (look list-of-ends) c ++ rest
      → take (length one) list ≡ capacities n one two marks c
  unfolding capacities
  the_front_is_worked_out rest list e =
      the_front_is_trimmed w.within (look list-of-ends) rest list e ∙ ap (λ (t : ℕ → ℕ). balanced (links one two) n t c) ended

  -- and their sum over all ends is the largest total
  pub the_sum_is_the_largest_total : at_terminals (links one two) n (own (look list-of-ends) 0) (look (balanced (links one two) n (look list-of-ends) c))
      ≡ total_by n one two marks c
  unfolding total_by capacities
  the_sum_is_the_largest_total =
      without-a-far-site (links one two) n (look list-of-ends) (look (balanced (links one two) n (look list-of-ends) c))
      ∙ ap (λ (t : ℕ → ℕ). at_terminals (links one two) n t (look (balanced (links one two) n t c))) ended
      ∙ sym (the_largest_total_is_the_sum_at_the_terminals w.within.tree (look (ends (links one two) n marks)) c)

-- the two networks of a range sheet have the same sites and links
pub the_two_networks : (s : List ℕ) (low high : Network) → read_as ranges_low s ≡ accepted low → read_as ranges_high s ≡ accepted high → Ranged low high
the_two_networks s low high p q =
    let h = rw (p, q) at (a_range_sheet_is_read_alike s) in
    subst (Ranged low) (sym (same-network high h.0 h.1)) h.2
  where
    same-network : (a b : Network) → accepted a ≡ accepted b → a ≡ b
    same-network a b e = cc

module _ {s : List ℕ} {net : Network} (N : IsNetwork largest s net) where
  trimmed-within : (j : ℕ) → j < length net.links → look (trimmed_sizes net) j ≤ SIZE
  unfolding trimmed_sizes
  trimmed-within j l =
      omega (arith, (balanced_is_greatest N.tree (look (ends_of net)) net.capacities).below j l, N.sizes j (omega (arith, N.capacities)))

  total-within : largest_total net ≤ 2 * (LINKS * SIZE)
  unfolding largest_total trimmed_sizes
  total-within = total-shown-within N (halves net) (halves_can_be_shown net N.tree)

module _ (s : List ℕ) (low high : Network) (L : IsNetwork largest s low) (H : IsNetwork largest s high) (same : high.links ≡ low.links) where
  span_is_small : SmallSpan (span_of s low high)
  unfolding span_of
  span_is_small =
      let all = length-map low.links (λ l. l.0) in
      let as_many = ap length same in
      record {
        name = name-or-nothing L (λ f. length f ≤ 12) (λ f e. (name-length f e).1) (omega arith);
        links_few = omega (arith, all, few_links L);
        low = λ j l. L.sizes j (omega (arith, all, L.capacities));
        high = λ j l. H.sizes j (omega (arith, all, as_many, H.capacities));
        trimmed-low = λ j l. trimmed-within L j (omega (arith, all));
        trimmed-high = λ j l. trimmed-within H j (omega (arith, all, as_many));
        least_small = total-within L;
        greatest_small = total-within H;
      }

-- the report of every accepted range sheet fits REPORT bytes
pub a_span_report_is_small : (s : List ℕ) (low high : Network) → read_as ranges_low s ≡ accepted low → read_as ranges_high s ≡ accepted high
    → length (span_report s low high) ≤ REPORT
unfolding span_report
a_span_report_is_small s low high p q =
    a_small_span_has_a_small_report (span_of s low high) (span_is_small s low high (within_the_largest ranges_low s low (omega arith) (omega arith) p)
    (within_the_largest ranges_high s high (omega arith) (omega arith) q) (the_two_networks s low high p q).links)

module _ {s starting stopping : List ℕ} {n : ℕ} {one-sites two-sites marks low high : List ℕ}
    (a : Apart s starting stopping n one-sites two-sites marks low high) where
  lower_network : IsNetwork largest s a.lower
  lower_network = within_the_largest ranges_low s a.lower (omega arith) (omega arith) a.read_low

  upper_network : IsNetwork largest s a.upper
  upper_network = within_the_largest ranges_high s a.upper (omega arith) (omega arith) a.read_high

  the_links : links one-sites two-sites ≡ a.lower.links
  the_links = rw (a.firsts, a.seconds) (links-again a.lower.links)

  tree_with : (c : List ℕ) → length c ≡ length a.lower.links → ((j : ℕ) → j < length c → look c j ≤ SIZE)
      → MarkedTree largest n one-sites two-sites marks c
  tree_with c each small =
      let N = lower_network in
      let all = a.counted ∙ N.tree.links in
      record {
        within = record {
          tree = rw (the_links, a.counted) N.tree;
          few = rw a.counted N.few;
          firsts = all ∙ ap suc (sym (ap length a.firsts ∙ length-map a.lower.links (λ l. l.0)));
          seconds = all ∙ ap suc (sym (ap length a.seconds ∙ length-map a.lower.links (λ l. l.1)));
          capacities = all ∙ ap suc (sym each);
          limited = small;
        };
        marked = a.counted ∙ sym (ap length a.marked ∙ N.marks);
      }

  -- the low and the high sizes, each with the tree
  pub the_low_tree : MarkedTree largest n one-sites two-sites marks low
  the_low_tree = tree_with low (ap length a.lows ∙ lower_network.capacities) (rw a.lows lower_network.sizes)

  pub the_high_tree : MarkedTree largest n one-sites two-sites marks high
  the_high_tree =
      tree_with high (ap length a.highs ∙ upper_network.capacities ∙ ap length a.ranged.links) (rw a.highs upper_network.sizes)

  pub few_firsts : length one-sites ≤ SITES
  few_firsts = omega (arith, the_low_tree.within.firsts, the_low_tree.within.few)

  -- what trimming and the totals of the lists are
  low-trimmed : capacities n one-sites two-sites marks low ≡ trimmed_sizes a.lower
  unfolding capacities trimmed_sizes
  low-trimmed = rw (the_links, a.counted, a.marked, a.lows)

  high-trimmed : capacities n one-sites two-sites marks high ≡ trimmed_sizes a.upper
  unfolding capacities trimmed_sizes
  high-trimmed = rw (the_links, a.counted, a.marked, a.highs, a.ranged.links, a.ranged.names, a.ranged.marks)

  low-total : total_by n one-sites two-sites marks low ≡ largest_total a.lower
  unfolding total_by largest_total
  low-total = rw (low-trimmed, the_links, a.counted, a.marked)

  high-total : total_by n one-sites two-sites marks high ≡ largest_total a.upper
  unfolding total_by largest_total
  high-total = rw (high-trimmed, the_links, a.counted, a.marked, a.ranged.links, a.ranged.names, a.ranged.marks)

  module _ (leasts greatests : List ℕ) (least greatest : ℕ)
      (e : leasts ≡ capacities n one-sites two-sites marks low) (f : greatests ≡ capacities n one-sites two-sites marks high)
      (g : least ≡ total_by n one-sites two-sites marks low) (h : greatest ≡ total_by n one-sites two-sites marks high) where
    -- the lists show the span
    pub the_lists_show_the_span : span_by s starting stopping one-sites two-sites low high leasts greatests least greatest ≡ span_of s a.lower a.upper
    unfolding span_of
    the_lists_show_the_span =
        rw (e, f, g, h, low-trimmed, high-trimmed, low-total, high-total, a.started, a.stopped, a.firsts, a.seconds, a.lows, a.highs, names s a.lower)

    -- and can be written
    pub the_lists_can_be_written : Ranges s starting stopping one-sites two-sites low high leasts greatests
    unfolding capacities
    the_lists_can_be_written =
        let o = length-map a.lower.links (λ l. l.0) in
        let t = the_low_tree.within in
        let u = the_high_tree.within in
        let terminal = look (ends (links one-sites two-sites) n marks) in
        let all : length (links one-sites two-sites) ≡ length one-sites = omega (arith, t.tree.links, t.firsts) in
        record {
          twos-length = omega (arith, t.firsts, t.seconds);
          lows_length = omega (arith, t.firsts, t.capacities);
          highs_length = omega (arith, u.firsts, u.capacities);
          leasts_length = ap length e ∙ balanced_has_each_link t.tree terminal low ∙ all;
          greatests_length = ap length f ∙ balanced_has_each_link t.tree terminal high ∙ all;
          named = rw (a.started, a.stopped, a.firsts, a.seconds) (λ j l. let k : j < length a.lower.links = omega arith in
              rw (get_or-map (λ l. l.0) a.lower.links j (0, 0), get_or-map (λ l. l.1) a.lower.links j (0, 0)) (
                named_site lower_network (one a.lower.links j) (lower_network.tree.ends j k).0,
                named_site lower_network (two a.lower.links j) (lower_network.tree.ends j k).1,
              ));
        }

    pub they_are_within_a_report : length (span_text (span_by s starting stopping one-sites two-sites low high leasts greatests least greatest)) ≤ REPORT
    they_are_within_a_report = rw the_lists_show_the_span (unfold span_report in a_span_report_is_small s a.lower a.upper a.read_low a.read_high)

    -- what is delivered is the outcome
    pub the_span_is_delivered : (b : List ℕ)
        → deliver (span_text (span_by s starting stopping one-sites two-sites low high leasts greatests least greatest)) b ≡ spanned s b
    unfolding spanned span_read network_of span_report
    the_span_is_delivered b = rw (the_lists_show_the_span, a.read_low, a.read_high) refl

-- a buffer with room for the longest report has room for any
pub a_report_fits_its_room : (k room : ℕ) → 0 + k ≤ REPORT → REPORT ≤ room → true ≡ leb k room
a_report_fits_its_room k room h l = sym (le-leb k room (omega arith))
