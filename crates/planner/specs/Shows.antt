-- The lists that the planner works out show the figures of the network: the report written from them is that of the plan that shows these figures.
-- Line by line: each line reads a list only at a place that the network fills.
use Rattle.std.specs.Prelude.{◌≡◌, refl, length, get_or, take}
use Rattle.std.proofs.Math.Path.{sym, ap, fun_ext}
use Rattle.std.proofs.Common.{ap₂, ◌∙◌, add-zero, arith}
use mathlib.Core.List.{List, [], ◌∷◌, ◌++◌, map}
use Prim.Native.Nat.{ℕ, zero, suc, ◌+◌, ◌-◌, ◌<◌}
use Rattle.model.specs.Limits.{SITES}
use Rattle.lists.specs.Numbers.{look, upfrom}
use Rattle.model.specs.Flows.{sites}
use Rattle.model.specs.declared.Pair.{Pair}
use Rattle.model.specs.declared.Pairs.{Pairs}
use Rattle.lists.specs.Sums.{pick_other, same?}
use Rattle.lists.specs.Places.{look-from}
use Rattle.sheet.specs.Sheet.{Network, ends_of, part}
use Rattle.sheet.specs.Reading.{padded}
use Rattle.sheet.specs.ListLaws.{look-padded}
use Rattle.report.specs.Report.{lines, odd_line, site_line, cut_line, Plan, report_of}
use Rattle.report.specs.Shown.{name_by, shown_by}
use Rattle.planner.specs.Figures.{Figures, terminal, pairs_by, plan_showing}

-- ---- the name ranges of the sites, as two lists

look-map : {A : Type 0} (f : A → ℕ) (l : List A) (d : A) → f d ≡ 0 → (i : ℕ) → look (map f l) i ≡ f (get_or l i d)
look-map f [] d e i = sym e
look-map f (x ∷ l) d e zero = refl
look-map f (x ∷ l) d e (suc i) = look-map f l d e i

abbrev pub starts : Network → List ℕ
starts net = padded SITES (map (λ r. r.0) net.names)

abbrev pub stops : Network → List ℕ
stops net = padded SITES (map (λ r. r.1) net.names)

pub ranges : (net : Network) (i : ℕ) → (look (starts net) i, look (stops net) i) ≡ get_or net.names i (0, 0)
ranges net i = ap₂ (λ (a b : ℕ). (a, b))
    (look-padded SITES (map (λ r. r.0) net.names) i ∙ look-map (λ r. r.0) net.names (0, 0) refl i)
    (look-padded SITES (map (λ r. r.1) net.names) i ∙ look-map (λ r. r.1) net.names (0, 0) refl i)

pub names : (s : List ℕ) (net : Network) → name_by s (starts net) (stops net) ≡ (λ v. part s (get_or net.names (v - 1) (0, 0)))
names s net = fun_ext (λ v. ap (part s) (ranges net (v - 1)))

-- ---- lines that read the same

lines_same : (f g : ℕ → List ℕ) (b n : ℕ) → ((i : ℕ) → i < n → f (b + i) ≡ g (b + i)) → lines f (upfrom b n) ≡ lines g (upfrom b n)
unfolding lines upfrom
lines_same f g b zero h = refl
lines_same f g b (suc n) h = ap₂ ◌++◌
    (rw (add-zero b) at (h 0 (omega arith)))
    (lines_same f g (suc b) n (λ i l. let e : b + suc i ≡ suc b + i = omega arith in rw e at (h (suc i) (omega arith))))

-- ---- the report

module _ (net : Network) (f : Figures) where
  abbrev size : ℕ
  size = length net.names

  -- lists that hold the figures of each site, the lines before the pairs, and pairs that are the pair list
  pub record Works (terminals owners sizes counts before : List ℕ) (pairs : List Pair) : Type 0 where
    pub marked : look terminals ≡ terminal net
    pub own : (i : ℕ) → i < size → look owners i ≡ f.owner (1 + i)
    pub cut : (i : ℕ) → i < size → terminal net (1 + i) ≡ 1 → look sizes i ≡ f.size (1 + i)
    pub members : (i : ℕ) → i < size → terminal net (1 + i) ≡ 1 → look counts i ≡ f.count (1 + i)
    pub lined : before ≡ lines odd_line f.pieces
    pub paired : pairs ≡ pairs_by net f

  module _ (name : ℕ → List ℕ) {terminals owners sizes counts before : List ℕ} {pairs : List Pair} (w : Works terminals owners sizes counts before pairs) where
    -- a site's place is its number less 1
    place : (i : ℕ) → 1 + i - 1 ≡ i
    place i = omega arith

    abbrev owned : List ℕ
    owned = map f.owner (sites size)

    site-lines : lines (site_line name owners) (sites size) ≡ lines (site_line name owned) (sites size)
    unfolding site_line
    site-lines = lines_same _ _ 1 size (λ i l. rw (place i, w.own i l, look-from f.owner 1 size i l))

    abbrev cut_sizes : List ℕ
    cut_sizes = map f.size (sites size)

    abbrev cut_counts : List ℕ
    cut_counts = map f.count (sites size)

    cut-lines : lines (cut_line name terminals sizes counts) (sites size) ≡ lines (cut_line name (ends_of net) cut_sizes cut_counts) (sites size)
    unfolding cut_line
    cut-lines = lines_same _ _ 1 size (λ i l.
        let here : look terminals (1 + i) ≡ terminal net (1 + i) = ap (λ (f : ℕ → ℕ). f (1 + i)) w.marked in
        rw (here, place i, look-from f.size 1 size i l, look-from f.count 1 size i l)
        (same? (terminal net (1 + i)) 1
        (λ e. rw (w.cut i l e, w.members i l e) refl)
        (λ d. pick_other d _ _ ∙ sym (pick_other d _ _))))

  -- the plan that such lists show
  abbrev pub plan_by : List ℕ → List ℕ → List ℕ → List ℕ → List ℕ → List ℕ → Pairs → Plan
  plan_by s terminals owners sizes counts before pairs = shown_by f.word before s (starts net) (stops net) size
      (map (λ l. l.0) net.links) (map (λ l. l.1) net.links) net.capacities f.shown terminals owners sizes counts pairs

  -- the report written from such lists is that of the figures
  pub the_lists_show_the_figures : (s : List ℕ) {terminals owners sizes counts before : List ℕ} (pairs : Pairs)
      → Works terminals owners sizes counts before (take pairs.count pairs.list)
      → report_of (plan_by s terminals owners sizes counts before pairs) ≡ report_of (plan_showing net s f)
  unfolding report_of
  the_lists_show_the_figures s pairs w =
      let name : ℕ → List ℕ = λ v. part s (get_or net.names (v - 1) (0, 0)) in
      rw (names s net, site-lines name w, cut-lines name w, w.lined, w.paired)
