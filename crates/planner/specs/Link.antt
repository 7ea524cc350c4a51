-- An accepted sheet of two sites: what its link, its two sites and its pair show is ready to be written, for either report.
-- Document 01, "Pairing" (with two sites only); what holds of such a tree is in theory_link.
use Rattle.std.specs.Prelude.{◌≡◌, refl, List, [], ◌∷◌, map, ℕ, zero, suc, ◌+◌, ◌-◌, ◌≤◌, ◌<◌, length, set, replicate}
use Rattle.std.proofs.Math.Path.{sym, fun_ext}
use Rattle.std.proofs.Common.{ap, ◌∙◌, append-nil, arith, ext_get_or}
use Rattle.model.specs.Limits.{PLACES, SIZE}
use Rattle.model.specs.Edition.{largest}
use Rattle.model.specs.Flows.{Links, Tree}
use Rattle.model.specs.Trimming.{balanced}
use Rattle.model.specs.Cuts.{owner, cut_size, cut_count}
use Rattle.model.specs.Parts.{pair_list_of_parts}
use Rattle.model.specs.Whole.{LargestWhole, set_size, set_count, odd_pieces}
use Rattle.model.specs.Text.{bytes}
use Rattle.model.specs.declared.Pair.{Pair}
use Rattle.lists.specs.Numbers.{look}
use Rattle.lists.specs.Places.{look-zeros}
use Rattle.theory_link.specs.TwoSites.{link_pairs, Shape, one_link, both_sites_are_ends, the_capacity_is_kept}
use Rattle.theory_link.proofs.TwoSites.{two_sites_have_one_link}
use Rattle.theory_link.specs.TwoSites.{each_owns_itself, each_set_has_the_link, each_set_has_one_site, the_pair_list_is_one_pair}
use Rattle.theory_link.specs.TwoSites.{the_load_is_the_capacity, each_owns_itself_whole, each_whole_set_has_the_link, each_whole_set_has_one_site}
use Rattle.theory_link.specs.TwoSites.{there_is_no_piece}
use Rattle.theory_link.proofs.TwoSites.{at-most-one-pair}
use Rattle.pairing_walk.specs.Visits.{listing}
use Rattle.pairing_walk.specs.Laws.{listing_counts, listing-holds, listing-long}
use Rattle.text_writers.specs.Fields.{line}
use Rattle.text_writers.specs.Decimal.{decimal_small}
use Rattle.sheet.specs.Sheet.{Network}
use Rattle.sheet.specs.SheetTheorem.{IsNetwork}
use Rattle.report.specs.Report.{Plan, lines, odd_line, report_of, whole_report}
use Rattle.report.specs.Shown.{shown_by}
use Rattle.planner.specs.Outcome.{Reporter}
use Rattle.planner.specs.Figures.{Figures, Showable, terminal, halves, wholes, plan_showing}
use Rattle.planner.specs.WholeFigures.{wholes_are_largest, wholes_can_be_shown}
use Rattle.planner.specs.Figures.{halves_can_be_shown, the_report_shows_halves, the_whole_report_shows_wholes}
use Rattle.planner.specs.Shows.{starts, stops, Works}
use Rattle.planner.specs.Ready.{TakenApart, ReadyBy, Ready}
use Rattle.planner.specs.Taken.{the_network_is_given, the_network_is_a_tree_within}
use Rattle.planner.specs.Works.{figures_are_ready}

-- the ends of two sites: place v holds 1 where site v is an end
abbrev pub link_ends : List ℕ
link_ends = set (set (replicate PLACES 0) 1 1) 2 1

-- the plan of two sites: the link carries its capacity, each site is in the set of its own, of that size and of one site, and there is one pair
abbrev pub link_plan : List ℕ → List ℕ → List ℕ → List ℕ → List ℕ → List ℕ → List ℕ → List ℕ → Plan
link_plan word before s starts stops one two c =
    let size = look c 0 in
    shown_by word before s starts stops 2 one two c c link_ends (1 ∷ 2 ∷ []) (size ∷ size ∷ []) (1 ∷ 1 ∷ []) (listing (link_pairs size))

both_are_marked : look link_ends ≡ look (0 ∷ 1 ∷ 1 ∷ [])
both_are_marked = fun_ext by
  where
    by : (v : ℕ) → look link_ends v ≡ look (0 ∷ 1 ∷ 1 ∷ []) v
    by zero = refl
    by (suc zero) = refl
    by (suc (suc zero)) = refl
    by (suc (suc (suc v))) = look-zeros (PLACES - 3) v

-- a list of one number
alone : (l : List ℕ) → length l ≡ 1 → l ≡ look l 0 ∷ []
alone [] e = absurd (omega (arith, e))
alone (x ∷ []) e = refl
alone (x ∷ y ∷ l) e = absurd (omega (arith, e))

-- the line `Q` of no odd piece
no_piece_line : bytes "Q\t0\n" ≡ odd_line 0
unfolding odd_line line
no_piece_line = rw (decimal_small 0 (omega arith)) refl

-- ---- what its figures come to, for any number of sites that is 2

module _ {ls : Links} (shape : Shape ls) (end : ℕ → ℕ) (first : end 1 ≡ 1) (second : end 2 ≡ 1) {n : ℕ} (both : n ≡ 2) where
  -- what holds at both sites holds at each
  each : (f : ℕ → ℕ) (a b : ℕ) → (f 1 ≡ a) × (f 2 ≡ b) → (i : ℕ) → i < n → look (a ∷ b ∷ []) i ≡ f (1 + i)
  each f a b h zero l = sym h.0
  each f a b h (suc zero) l = sym h.1
  each f a b h (suc (suc i)) l = absurd (omega arith)

  module _ (c : ℕ → ℕ) where
    own-in-halves : (i : ℕ) → i < n → look (1 ∷ 2 ∷ []) i ≡ owner ls c c end n (1 + i)
    own-in-halves = each (owner ls c c end n) 1 2 (rw both (each_owns_itself shape end first second c))

    sizes-in-halves : (i : ℕ) → i < n → look (c 0 ∷ c 0 ∷ []) i ≡ cut_size ls c c (1 + i)
    sizes-in-halves = each (cut_size ls c c) (c 0) (c 0) (each_set_has_the_link shape end first second c)

    counts-in-halves : (i : ℕ) → i < n → look (1 ∷ 1 ∷ []) i ≡ cut_count ls c c n (1 + i)
    counts-in-halves = each (cut_count ls c c n) 1 1 (rw both (each_set_has_one_site shape end first second c))

    one-pair : link_pairs (c 0) ≡ pair_list_of_parts ls n c end
    one-pair = rw both (sym (the_pair_list_is_one_pair shape end first second c))

    module _ (x own : ℕ → ℕ) (taken : LargestWhole ls n end c x own) where
      taken-of-two : LargestWhole ls 2 end c x own
      taken-of-two = rw both at taken

      whole-load : x 0 ≡ c 0
      whole-load = the_load_is_the_capacity shape end first second c x own taken-of-two

      whole-own : (i : ℕ) → i < n → look (1 ∷ 2 ∷ []) i ≡ own (1 + i)
      whole-own = each own 1 2 (each_owns_itself_whole shape end first second c x own taken-of-two)

      whole-sizes : (i : ℕ) → i < n → look (c 0 ∷ c 0 ∷ []) i ≡ set_size ls c own (1 + i)
      whole-sizes = each (set_size ls c own) (c 0) (c 0) (each_whole_set_has_the_link shape end first second c x own taken-of-two)

      whole-counts : (i : ℕ) → i < n → look (1 ∷ 1 ∷ []) i ≡ set_count n own (1 + i)
      whole-counts = each (set_count n own) 1 1 (rw both (each_whole_set_has_one_site shape end first second c x own taken-of-two))

      no_pieces : odd_pieces ls n c own ≡ 0
      no_pieces = rw both (there_is_no_piece shape end first second c x own taken-of-two)

-- ---- the network

module _ {s : List ℕ} {net : Network} (N : IsNetwork largest s net) (both : length net.names ≡ 2) where
  abbrev ls : Links
  ls = net.links

  abbrev cs : ℕ → ℕ
  cs = look net.capacities

  abbrev c : ℕ
  c = cs 0

  tree : Tree ls 2
  tree = rw both at N.tree

  shape : Shape ls
  shape = two_sites_have_one_link ls tree

  one-capacity : net.capacities ≡ c ∷ []
  one-capacity = alone net.capacities (N.capacities ∙ one_link shape)

  -- both sites are ends
  ends_are_both : terminal net ≡ look (0 ∷ 1 ∷ 1 ∷ [])
  ends_are_both = rw both (ap look (both_sites_are_ends shape net.marks))

  first-end : terminal net 1 ≡ 1
  first-end = ap (λ (f : ℕ → ℕ). f 1) ends_are_both

  second-end : terminal net 2 ≡ 1
  second-end = ap (λ (f : ℕ → ℕ). f 2) ends_are_both

  ends_are_marked : look link_ends ≡ terminal net
  ends_are_marked = both_are_marked ∙ sym ends_are_both

  -- in halves
  kept : (n : ℕ) (end : ℕ → ℕ) → n ≡ 2 → end 1 ≡ 1 → end 2 ≡ 1 → balanced ls n end net.capacities ≡ net.capacities
  kept n end e f g = rw (e, one-capacity) (the_capacity_is_kept shape end f g tree c)

  pub halves_show_the_capacity : (halves net).shown ≡ net.capacities
  halves_show_the_capacity = kept (length net.names) (terminal net) both first-end second-end

  pub link_in_halves : Works net (halves net) link_ends (1 ∷ 2 ∷ []) (c ∷ c ∷ []) (1 ∷ 1 ∷ []) [] (link_pairs c)
  unfolding lines
  link_in_halves = record {
    marked = ends_are_marked;
    own = rw halves_show_the_capacity (own-in-halves shape (terminal net) first-end second-end both cs);
    cut = λ i l e. rw halves_show_the_capacity (sizes-in-halves shape (terminal net) first-end second-end both cs i l);
    members = λ i l e. rw halves_show_the_capacity (counts-in-halves shape (terminal net) first-end second-end both cs i l);
    lined = refl;
    paired = rw halves_show_the_capacity (one-pair shape (terminal net) first-end second-end both cs);
  }

  -- in whole circuits
  abbrev own : ℕ → ℕ
  own = (wholes net).owner

  taken : LargestWhole ls (length net.names) (terminal net) cs (look (wholes net).shown) own
  taken = wholes_are_largest net N.tree

  pub wholes_show_the_capacity : (wholes net).shown ≡ net.capacities
  wholes_show_the_capacity =
      let each-link = (wholes_can_be_shown net N.tree).each-link in
      ext_get_or 0 (wholes net).shown net.capacities (each-link ∙ sym N.capacities) (λ i l.
      let e : i ≡ 0 = omega (arith, each-link, one_link shape) in
      rw e (whole-load shape (terminal net) first-end second-end both cs (look (wholes net).shown) own taken))

  pub link_in_whole_circuits : Works net (wholes net) link_ends (1 ∷ 2 ∷ []) (c ∷ c ∷ []) (1 ∷ 1 ∷ []) (bytes "Q\t0\n") (link_pairs c)
  unfolding lines
  link_in_whole_circuits = record {
    marked = ends_are_marked;
    own = whole-own shape (terminal net) first-end second-end both cs (look (wholes net).shown) own taken;
    cut = λ i l e. whole-sizes shape (terminal net) first-end second-end both cs (look (wholes net).shown) own taken i l;
    members = λ i l e. whole-counts shape (terminal net) first-end second-end both cs (look (wholes net).shown) own taken i l;
    lined = rw (no_pieces shape (terminal net) first-end second-end both cs (look (wholes net).shown) own taken) (no_piece_line ∙ sym (append-nil (odd_line 0)));
    paired = rw wholes_show_the_capacity (one-pair shape (terminal net) first-end second-end both cs);
  }

-- ---- ready to be written

held : (c : ℕ) → (listing (link_pairs c)).count ≤ length (listing (link_pairs c)).list
held c = omega (arith, at-most-one-pair c, listing_counts (link_pairs c), listing-long (link_pairs c) (omega (arith, at-most-one-pair c)))

-- the plan of two sites, by a number of sites that is 2 and a list that shows the capacities
as_the_link : {text : Reporter} (word before s starts stops one two c shown : List ℕ) (n : ℕ) → shown ≡ c → n ≡ 2
    → (let k = look c 0 in let ps = listing (link_pairs k) in
    ReadyBy text s starts stops (shown_by word before s starts stops n one two c shown link_ends (1 ∷ 2 ∷ []) (k ∷ k ∷ []) (1 ∷ 1 ∷ []) ps) ps)
    → ReadyBy text s starts stops (link_plan word before s starts stops one two c) (listing (link_pairs (look c 0)))
as_the_link word before s starts stops one two c shown n e f r = rw (e, f) at r

module _ {s starting stopping one two c : List ℕ} (a : TakenApart s starting stopping 2 one two c) where
  abbrev net : Network
  net = a.net

  abbrev ones : List ℕ
  ones = map (λ l. l.0) net.links

  abbrev twos : List ℕ
  twos = map (λ l. l.1) net.links

  abbrev pairs : List Pair
  pairs = link_pairs (look net.capacities 0)

  N : IsNetwork largest s net
  N = the_network_is_given a

  both : length net.names ≡ 2
  both = sym a.counted

  places : (length net.names ≤ 2) × (length net.names ≤ 2) × (length net.names ≤ 2)
  places = (omega (arith, both), omega (arith, both), omega (arith, both))

  -- figures of the network that show the capacities and are worked out in the lists of the plan of two sites
  ready_by : {text : Reporter} (f : Figures) (before : List ℕ) → Showable net f → f.shown ≡ net.capacities
      → Works net f link_ends (1 ∷ 2 ∷ []) (look net.capacities 0 ∷ look net.capacities 0 ∷ []) (1 ∷ 1 ∷ []) before pairs
      → text s net ≡ report_of (plan_showing net s f)
      → ReadyBy text s starting stopping (link_plan f.word before s starting stopping one two c) (listing (link_pairs (look c 0)))
  ready_by {text} f before h shown w told =
      let works = rw (← listing-holds pairs) at w in
      let ready = figures_are_ready N f h (listing pairs) works places (held (look net.capacities 0)) {text = text} told a.read in
      rw (a.sizes, a.started, a.stopped, a.firsts, a.seconds)
      (as_the_link f.word before s (starts net) (stops net) ones twos net.capacities f.shown (length net.names) shown both ready)

  pub the_link_is_ready : Ready s starting stopping (link_plan (bytes "plan") [] s starting stopping one two c) (listing (link_pairs (look c 0)))
  the_link_is_ready =
      ready_by (halves net) [] (halves_can_be_shown net N.tree) (halves_show_the_capacity N both) (link_in_halves N both) (the_report_shows_halves net s)

  pub the_link_is_ready_whole : ReadyBy whole_report s starting stopping (link_plan (bytes "whole") (bytes "Q\t0\n") s starting stopping one two c)
      (listing (link_pairs (look c 0)))
  the_link_is_ready_whole =
      ready_by (wholes net) (bytes "Q\t0\n") (wholes_can_be_shown net N.tree) (wholes_show_the_capacity N both) (link_in_whole_circuits N both)
      (the_whole_report_shows_wholes net s)

  -- the capacity is one within the limit
  pub one-capacity-within : (1 ≤ length c) × (look c 0 ≤ SIZE)
  one-capacity-within =
      let tree = the_network_is_a_tree_within a in
      (omega (arith, tree.capacities), tree.limited 0 (omega (arith, tree.capacities)))
