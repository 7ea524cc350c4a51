-- The figures that a report shows of a network, and the plan that shows them: `plan_of` shows the figures in halves, `whole_of` those in whole circuits.
-- What holds of figures that can be shown is shown once, for both reports.
use Rattle.std.specs.Prelude.{◌≡◌, ◌⊎◌, List, [], ◌∷◌, map, ℕ, ◌-◌, ◌*◌, ◌≤◌, length, get_or}
use Rattle.std.proofs.Math.Path.{refl}
use Rattle.std.proofs.Math.Logic.{inl, inr}
use Rattle.std.proofs.Common.{append-nil, arith, mul-le-mul_right}
use Rattle.lists.specs.Numbers.{differ, sum, over, look, Each}
use Rattle.model.specs.Flows.{Links, Site, Tree, Below, sites, one, two}
use Rattle.model.specs.Trimming.{Greatest, Balanced, balanced}
use Rattle.model.specs.Cuts.{in_cut, cut_size, cut_count, owner}
use Rattle.model.specs.Parts.{pair_list_of_parts}
use Rattle.model.specs.Text.{bytes}
use Rattle.model.specs.Whole.{set_size, set_count, odd_pieces}
use Rattle.model.specs.WholeLoads.{whole_loads, whole_owner}
use Rattle.model.specs.declared.Pair.{Pair}
use Rattle.lists.specs.Sums.{is_le, differ-le, sum-le}
use Rattle.lists.specs.Places.{length-upfrom, over-le, over-one}
use Rattle.theory_trees.proofs.Greatest.{balanced_is_greatest, balanced_has_each_link}
use Rattle.theory_trees.specs.Owners.{owner-or-none}
use Rattle.theory_walk.specs.Sound.{Sound}
use Rattle.theory_walk.proofs.PartsTheorem.{pair_list_of_parts_is_sound}
use Rattle.sheet.specs.Sheet.{Network, ends_of, part}
use Rattle.report.specs.Report.{Plan, lines, odd_line, plan_of, whole_of, report_of, report, whole_report}

-- ---- figures

-- the heading; a size for each link; of each site the end whose set holds it, or 0; of each end the size and the count of its set;
-- the numbers of the `Q` lines
pub record Figures : Type 0 where
  pub word : List ℕ
  pub shown : List ℕ
  pub owner : ℕ → ℕ
  pub size : ℕ → ℕ
  pub count : ℕ → ℕ
  pub pieces : List ℕ

module _ (net : Network) where
  abbrev n : ℕ
  n = length net.names

  abbrev ls : Links
  ls = net.links

  abbrev c : ℕ → ℕ
  c = look net.capacities

  -- in halves, with these ends: trimmed sizes and end sets
  abbrev pub halves_by : (ℕ → ℕ) → Figures
  halves_by end =
      let trimmed = balanced ls n end net.capacities in
      record {
        word = bytes "plan";
        shown = trimmed;
        owner = owner ls c (look trimmed) end n;
        size = cut_size ls c (look trimmed);
        count = cut_count ls c (look trimmed) n;
        pieces = [];
      }

  -- in whole circuits, with these ends: loads, the sets that go with them, the count of odd pieces
  abbrev pub wholes_by : (ℕ → ℕ) → Figures
  wholes_by end =
      let owner = whole_owner ls n end c in
      record {
        word = bytes "whole";
        shown = whole_loads ls n end c;
        owner = owner;
        size = set_size ls c owner;
        count = set_count n owner;
        pieces = odd_pieces ls n c owner ∷ [];
      }

  -- the ends are those of the network
  abbrev pub terminal : ℕ → ℕ
  terminal = look (ends_of net)

  abbrev pub halves : Figures
  halves = halves_by terminal

  abbrev pub wholes : Figures
  wholes = wholes_by terminal

  abbrev trimmed : List ℕ
  trimmed = halves.shown

  -- ---- the plan that shows figures

  -- with these ends and these pairs
  abbrev pub plan_with : List ℕ → List Pair → List ℕ → Figures → Plan
  plan_with ends pairs s f = record {
    word = f.word;
    names = λ v. part s (get_or net.names (v - 1) (0, 0));
    size = n;
    ones = map (λ l. l.0) ls;
    twos = map (λ l. l.1) ls;
    capacities = net.capacities;
    shown = f.shown;
    ends = ends;
    owners = map f.owner (sites n);
    cut_sizes = map f.size (sites n);
    cut_counts = map f.count (sites n);
    before = lines odd_line f.pieces;
    pairs = pairs;
  }

  -- with the ends of the network, and the pairs over all parts
  abbrev pub pairs_by : Figures → List Pair
  pairs_by f = pair_list_of_parts ls n (look f.shown) terminal

  abbrev pub plan_showing : List ℕ → Figures → Plan
  plan_showing s f = plan_with (ends_of net) (pairs_by f) s f

  pub the_report_shows_halves : (s : List ℕ) → report s net ≡ report_of (plan_showing s halves)
  unfolding report plan_of lines
  the_report_shows_halves s = refl

  pub the_whole_report_shows_wholes : (s : List ℕ) → whole_report s net ≡ report_of (plan_showing s wholes)
  unfolding whole_report whole_of lines report_of
  the_whole_report_shows_wholes s = rw (append-nil (odd_line (odd_pieces ls n c (whole_owner ls n terminal c))))

  -- ---- figures that can be shown

  -- a heading of 2 to 5 bytes, none of them a tab or byte 10; a size for each link, above no given size, and no joint with a heavy link;
  -- of each site no owner or an end; sets and pieces of no more than there is, and at most one line `Q`
  pub record Showable (f : Figures) : Type 0 where
    pub short : length f.word ≤ 5
    pub long : 2 ≤ length f.word
    pub plain : Each (λ b. 45 ≤ b) f.word
    pub each-link : length f.shown ≡ length ls
    pub below : Below ls (look f.shown) c
    pub balanced : Balanced ls terminal (look f.shown)
    pub owned : (x : ℕ) → Site n x → (f.owner x ≡ 0) ⊎ (Site n (f.owner x) × (terminal (f.owner x) ≡ 1))
    pub sizes : (a : ℕ) → f.size a ≤ sum (length ls) c
    pub counts : (a : ℕ) → f.count a ≤ n
    pub one-piece-line : length f.pieces ≤ 1
    pub few_pieces : Each (λ k. k ≤ n) f.pieces

  pub figures_have_sound_pairs : Tree ls n → (f : Figures) → Showable f → Sound ls n terminal (look f.shown) (pairs_by f)
  figures_have_sound_pairs T f h = pair_list_of_parts_is_sound T terminal (look f.shown) h.balanced

  -- links with just one site among some have no more than all links
  pub leaving-within : (among : ℕ → ℕ) → sum (length ls) (λ j. differ (among (one ls j)) (among (two ls j)) * c j) ≤ sum (length ls) c
  leaving-within among = sum-le (length ls) (λ j. differ (among (one ls j)) (among (two ls j)) * c j) c
      (λ j l. omega (arith, mul-le-mul_right (c j) (differ-le (among (one ls j)) (among (two ls j)))))

  -- and there are no more sites among some than sites
  pub members-within : (among : ℕ → ℕ) → ((x : ℕ) → among x ≤ 1) → over (sites n) among ≤ n
  members-within among h = omega (arith, over-le (sites n) among (λ x. 1) (λ x q. h x), over-one (sites n), length-upfrom 1 n)

  module _ (T : Tree ls n) where
    pub trimmed_are_greatest : Greatest ls terminal c (look trimmed)
    trimmed_are_greatest = balanced_is_greatest T terminal net.capacities

    pub halves_can_be_shown : Showable halves
    unfolding cut_size cut_count in_cut
    halves_can_be_shown = record {
      short = omega arith;
      long = omega arith;
      plain = omega arith;
      each-link = balanced_has_each_link T terminal net.capacities;
      below = trimmed_are_greatest.below;
      balanced = trimmed_are_greatest.balanced;
      owned = λ x q. elim (owner-or-none ls c (look trimmed) terminal x n) [ inl r ↦ inl r.0 | inr r ↦ inr (r.0, r.1) ];
      sizes = λ a. leaving-within (in_cut ls c (look trimmed) a);
      counts = λ a. members-within (in_cut ls c (look trimmed) a) (λ x. is_le _ _);
      one-piece-line = omega arith;
      few_pieces = tt;
    }
