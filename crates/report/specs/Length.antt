-- A report within the limits fits REPORT bytes: by the bytes of the names and the digits of the numbers, a line of a link has at most 44 bytes, of a site 28,
-- of a terminal cut 29, of a pair 36; a line of a link of a range sheet at most 60.
use Rattle.std.specs.Prelude.{◌≡◌, refl, ℕ, zero, suc, ◌+◌, ◌-◌, ◌*◌, ◌≤◌, ◌<◌}
use mathlib.Core.List.{List, [], ◌∷◌}
use native.Mathlib.Omega.{arith}
use Rattle.std.proofs.Math.ListN.{length, length-append}
use Rattle.model.specs.Limits.{LINKS, REPORT, SITES, SIZE}
use Rattle.lists.specs.Numbers.{look, upfrom, Each}
use Rattle.model.specs.Flows.{Site, total}
use Rattle.model.specs.Text.{bytes}
use Rattle.model.specs.declared.Pair.{Pair}
use Rattle.lists.specs.Sums.{pick_cases}
use Rattle.text_writers.specs.Decimal.{decimal-within}
use Rattle.report.specs.Report.{decimal, line, lines, Plan, report_of, head_record, link_record, link_line, owner_name, site_record, site_line, cut_record}
use Rattle.report.specs.Report.{cut_line, pair_line, odd_line}
use Rattle.report.specs.Span.{Span, span_record, range_record, range_line, span_text}

-- ---- lines

-- a line has the bytes of its fields, and one more for each
widths : List (List ℕ) → ℕ
widths [] = 0
widths (f ∷ fs) = length f + 1 + widths fs

line-length : (fs : List (List ℕ)) → length (line fs) ≡ widths fs
unfolding line widths
line-length [] = refl
line-length (f ∷ []) = omega (arith, length-append f (10 ∷ []))
line-length (f ∷ g ∷ fs) = omega (arith, length-append f (9 ∷ line (g ∷ fs)), line-length (g ∷ fs))

-- lines of at most m bytes each, for b, b + 1, .., and for the elements of a list
lines_from : (f : ℕ → List ℕ) (m b n : ℕ) → ((i : ℕ) → b ≤ i → i < b + n → length (f i) ≤ m) → length (lines f (upfrom b n)) ≤ n * m
unfolding lines upfrom
lines_from f m b zero h = omega arith
lines_from f m b (suc n) h = omega (
  arith,
  h b (omega arith) (omega arith),
  length-append (f b) (lines f (upfrom (suc b) n)),
  lines_from f m (suc b) n (λ i l k. h i (omega arith) (omega arith)),
)

lines_of : {A : Type 0} (f : A → List ℕ) (P : A → Type 0) (m : ℕ) → ((a : A) → P a → length (f a) ≤ m) → (l : List A) → Each P l
    → length (lines f l) ≤ length l * m
unfolding lines
lines_of f P m h [] e = omega arith
lines_of f P m h (a ∷ l) e = omega (arith, h a e.0, length-append (f a) (lines f l), lines_of f P m h l e.1)

-- a line `Q`, or none: at most 16 bytes
pub odd_lines_are_short : (ks : List ℕ) → length ks ≤ 1 → Each (λ k. k ≤ SITES) ks → length (lines odd_line ks) ≤ 16
unfolding lines odd_line widths
odd_lines_are_short [] one few = omega arith
odd_lines_are_short (k ∷ []) one few = omega (
  arith,
  length-append (line (bytes "Q" ∷ decimal k ∷ [])) [],
  line-length (bytes "Q" ∷ decimal k ∷ []),
  decimal-within 6 k (omega (arith, few.0)),
)
odd_lines_are_short (k ∷ j ∷ ks) one few = absurd (omega arith)

-- ---- the report of a plan within the limits

pub record Small (p : Plan) : Type 0 where
  pub word : length p.word ≤ 5
  pub before : length p.before ≤ 16
  pub name : (v : ℕ) → length (p.names v) ≤ 12
  pub sites_few : p.size ≤ SITES
  pub links_few : length p.ones ≤ LINKS
  pub pairs_few : length p.pairs ≤ LINKS
  pub capacity : (j : ℕ) → j < length p.ones → look p.capacities j ≤ SIZE
  pub shown : (j : ℕ) → j < length p.ones → look p.shown j ≤ SIZE
  pub cut-size : (a : ℕ) → Site p.size a → look p.cut_sizes (a - 1) ≤ LINKS * SIZE
  pub cut-count : (a : ℕ) → Site p.size a → look p.cut_counts (a - 1) ≤ SITES
  pub amount : Each (λ e. e.amount ≤ 2 * SIZE) p.pairs
  pub total_small : total p.pairs ≤ 2 * (LINKS * SIZE)

module _ (p : Plan) (w : Small p) where
  heading-length : length (head_record p.word (total p.pairs) (length p.pairs)) ≤ 20
  unfolding head_record widths
  heading-length =
      let halves = total p.pairs in
      let count = length p.pairs in
      omega (
        arith,
        line-length (p.word ∷ decimal halves ∷ decimal count ∷ []),
        w.word,
        decimal-within 8 halves (omega (arith, w.total_small)),
        decimal-within 2 count (omega (arith, w.pairs_few)),
      )

  link-length : (j : ℕ) → j < length p.ones → length (link_line p.names p.ones p.twos p.capacities p.shown j) ≤ 44
  unfolding link_line link_record widths
  link-length j l =
      let one = p.names (look p.ones j) in
      let two = p.names (look p.twos j) in
      let capacity = look p.capacities j in
      let shown = look p.shown j in
      omega (
        arith,
        line-length (bytes "L" ∷ one ∷ two ∷ decimal capacity ∷ decimal shown ∷ []),
        w.name (look p.ones j),
        w.name (look p.twos j),
        decimal-within 6 capacity (omega (arith, w.capacity j l)),
        decimal-within 6 shown (omega (arith, w.shown j l)),
      )

  owner-length : (a : ℕ) → length (owner_name p.names a) ≤ 12
  unfolding owner_name
  owner-length a = pick_cases (λ f. length f ≤ 12) a 0 (bytes "-") (p.names a) (λ e. omega arith) (λ d. w.name a)

  site-length : (x : ℕ) → length (site_line p.names p.owners x) ≤ 28
  unfolding site_line site_record widths
  site-length x =
      let owner = look p.owners (x - 1) in
      omega (arith, line-length (bytes "N" ∷ p.names x ∷ owner_name p.names owner ∷ []), w.name x, owner-length owner)

  cut-length : (a : ℕ) → Site p.size a → length (cut_line p.names p.ends p.cut_sizes p.cut_counts a) ≤ 29
  unfolding cut_line cut_record widths
  cut-length a q =
      let size = look p.cut_sizes (a - 1) in
      let count = look p.cut_counts (a - 1) in
      let fields = bytes "X" ∷ p.names a ∷ decimal size ∷ decimal count ∷ [] in
      pick_cases (λ f. length f ≤ 29) (look p.ends a) 1 (line fields) []
      (λ e. omega (
        arith,
        line-length fields,
        w.name a,
        decimal-within 8 size (omega (arith, w.cut-size a q)),
        decimal-within 2 count (omega (arith, w.cut-count a q)),
      ))
      (λ d. omega arith)

  pair-length : (e : Pair) → e.amount ≤ 2 * SIZE → length (pair_line p.names e) ≤ 36
  unfolding pair_line widths
  pair-length e l = omega (
    arith,
    line-length (bytes "P" ∷ p.names e.first ∷ p.names e.second ∷ decimal e.amount ∷ []),
    w.name e.first,
    w.name e.second,
    decimal-within 6 e.amount (omega arith),
  )

  -- a report within the limits fits
  pub a_small_plan_has_a_small_report : length (report_of p) ≤ REPORT
  unfolding report_of
  a_small_plan_has_a_small_report =
      let links = link_line p.names p.ones p.twos p.capacities p.shown in
      let cuts = cut_line p.names p.ends p.cut_sizes p.cut_counts in
      let owned = site_line p.names p.owners in
      simp length-append (omega (
        arith,
        heading-length,
        lines_from links 44 0 (length p.ones) (λ j l k. link-length j (omega arith)),
        lines_from owned 28 1 p.size (λ x l k. site-length x),
        lines_from cuts 29 1 p.size (λ a l k. cut-length a (omega arith)),
        lines_of (pair_line p.names) (λ e. e.amount ≤ 2 * SIZE) 36 pair-length p.pairs w.amount,
        w.before,
        w.sites_few,
        w.links_few,
        w.pairs_few,
      ))

-- ---- the report of a range sheet within the limits

pub record SmallSpan (p : Span) : Type 0 where
  pub name : (v : ℕ) → length (p.names v) ≤ 12
  pub links_few : length p.ones ≤ LINKS
  pub low : (j : ℕ) → j < length p.ones → look p.lows j ≤ SIZE
  pub high : (j : ℕ) → j < length p.ones → look p.highs j ≤ SIZE
  pub trimmed-low : (j : ℕ) → j < length p.ones → look p.leasts j ≤ SIZE
  pub trimmed-high : (j : ℕ) → j < length p.ones → look p.greatests j ≤ SIZE
  pub least_small : p.least ≤ 2 * (LINKS * SIZE)
  pub greatest_small : p.greatest ≤ 2 * (LINKS * SIZE)

module _ (p : Span) (w : SmallSpan p) where
  range_length : (j : ℕ) → j < length p.ones
      → length (range_line p.names p.ones p.twos p.lows p.highs p.leasts p.greatests j) ≤ 60
  unfolding range_line range_record widths
  range_length j l =
      let one = p.names (look p.ones j) in
      let two = p.names (look p.twos j) in
      let low = look p.lows j in
      let high = look p.highs j in
      let least = look p.leasts j in
      let greatest = look p.greatests j in
      omega (
        arith,
        line-length (bytes "L" ∷ one ∷ two ∷ decimal low ∷ decimal high ∷ decimal least ∷ decimal greatest ∷ []),
        w.name (look p.ones j),
        w.name (look p.twos j),
        decimal-within 6 low (omega (arith, w.low j l)),
        decimal-within 6 high (omega (arith, w.high j l)),
        decimal-within 6 least (omega (arith, w.trimmed-low j l)),
        decimal-within 6 greatest (omega (arith, w.trimmed-high j l)),
      )

  -- it fits too
  pub a_small_span_has_a_small_report : length (span_text p) ≤ REPORT
  unfolding span_text span_record widths
  a_small_span_has_a_small_report =
      let ranges = range_line p.names p.ones p.twos p.lows p.highs p.leasts p.greatests in
      simp length-append (omega (
        arith,
        line-length (bytes "span" ∷ decimal p.least ∷ decimal p.greatest ∷ []),
        decimal-within 8 p.least (omega (arith, w.least_small)),
        decimal-within 8 p.greatest (omega (arith, w.greatest_small)),
        lines_from ranges 60 0 (length p.ones) (λ j l k. range_length j (omega arith)),
        w.links_few,
      ))
