-- Plans in whole circuits on a tree: what is promised of the loads and the sets that are taken, and of the pairs of such loads.
use Rattle.std.specs.Prelude.{◌≡◌, ◌≢◌, List, ℕ, ◌*◌, ◌≤◌, ◌<◌, length}
use Rattle.std.proofs.Common.{sym}
use Rattle.std.proofs.Math.Logic.{inl, inr}
use native.Mathlib.Omega.{arith}
use Rattle.lists.specs.Numbers.{count, over, Each}
use Rattle.lists.specs.Sums.{is_same, same?, sum_ge}
use Rattle.model.specs.Flows.{Links, Site, Tree, at, sum_at, leaf}
use Rattle.model.specs.Trimming.{elimination}
use Rattle.model.specs.Parts.{pair_list_of_parts}
use Rattle.model.specs.Whole.{Even, LargestWhole, odd_pieces}
use Rattle.model.specs.WholeLoads.{parent_of, above, no_intervals, take_all, intervals, loading, whole_load, whole_owner}
use Rattle.model.specs.declared.Pair.{Pair}
use Rattle.theory_trees.specs.Trees.{local_one}
use Rattle.theory_walk.specs.Sound.{Sound}
use Rattle.theory_walk.specs.PartsTheorem.{pair_list_of_parts_is_even}
use Rattle.theory_walk.proofs.PartsTheorem.{pair_list_of_parts_is_sound}
use Rattle.theory_whole.specs.Counting.{odd_at}
use Rattle.theory_whole.specs.Solution.{Solution}
use Rattle.theory_whole.specs.Inward.{most_is_small}
use Rattle.theory_whole.specs.Outward.{loop_solution}
use Rattle.theory_whole.specs.Links.{upward_out}
use Rattle.theory_whole.proofs.PlanLoads.{plan_loads}
use Rattle.theory_whole.specs.Plans.{Network, one-above, plain, largest_loads, largest-best}
use Rattle.theory_whole.proofs.Plans.{by_elimination}
use Rattle.theory_whole.specs.LinkSets.{sets_are_end_sets}
use Rattle.theory_whole.proofs.LinkSets.{odd_counted, sizes_meet_loads}
use Rattle.theory_whole.specs.Circuits.{PairsWhole}

module _ {ls : Links} {n : ℕ} (T : Tree ls n) (terminal : ℕ → ℕ) (leaves : (v : ℕ) → Site n v → leaf ls v ≡ 1 → terminal v ≡ 1) where
  -- an inner site has two links or more
  joints : (v : ℕ) → Site n v → terminal v ≢ 1 → 2 ≤ sum_at ls v (λ i. 1)
  unfolding leaf sum_at
  joints v p m =
      let x : (x : ℕ) × Site n x × (x ≢ v)
      = same? v 1 (λ e. (2, (omega arith, T.big), λ q. omega arith)) (λ d. (1, (omega arith, omega arith), λ q. d (sym q))) in
      let r = local_one T v x.0 p x.1 x.2 in
      let some = rw r.2 at (sum_ge (length ls) r.0 (λ i. at ls v i * 1) r.1) in
      same? (sum_at ls v (λ i. 1)) 1 (λ e. absurd (m (leaves v p (is_same e)))) (λ d. omega arith)

  -- the tree along its elimination order
  pub network : Network ls n terminal (elimination ls n)
  network = by_elimination T terminal joints

  module _ (c : ℕ → ℕ) where
    -- what the two ways along the order find
    found : Solution (elimination ls n) (parent_of ls (elimination ls n)) (above ls n terminal c) terminal
    unfolding above
    found = loop_solution (plain network c)

    -- the loads and the sets taken are all that the card says: whole loads, the largest, and end sets whose sizes less the odd pieces equal the total
    pub the_loads_taken_are_largest : LargestWhole ls n terminal c (whole_load ls n terminal c) (whole_owner ls n terminal c)
    unfolding whole_load whole_owner loading intervals above found loop_solution
    the_loads_taken_are_largest = record {
      loads = largest_loads network c found;
      largest = λ es w. let r = plan_loads T terminal es w in omega (arith, r.1, largest-best network c found r.0);
      sets = sets_are_end_sets network c found;
      sizes = sizes_meet_loads network c found;
    }

    -- an odd piece is counted at its first site, seen from the root
    pub odd_pieces_are_counted_at_sites :
        over (elimination ls n) (odd_at (parent_of ls (elimination ls n)) (above ls n terminal c) (intervals ls n terminal c).most (whole_owner ls n terminal c))
        ≡ odd_pieces ls n c (whole_owner ls n terminal c)
    unfolding whole_owner loading intervals above found loop_solution
    odd_pieces_are_counted_at_sites = odd_counted network c found

    -- ---- what stays small, for any limit M on capacities

    module _ (M : ℕ) (small : (j : ℕ) → j < length ls → c j ≤ M) where
      pub capacities_above_are_small : (v : ℕ) → above ls n terminal c v ≤ M
      unfolding above
      capacities_above_are_small v = same? (count (elimination ls n) v) 0
          (λ z. omega (arith, upward_out ls (elimination ls n) v z c))
          (λ d. elim (one-above network v (omega arith)) [ inl r ↦ omega (arith, r.1 c) | inr r ↦ omega (arith, r.5 c, small r.0 r.1) ])

      -- whatever sites are taken, in any number
      pub sums_taken_are_small : (vs : List ℕ) (p : ℕ)
          → (take_all (parent_of ls (elimination ls n)) (above ls n terminal c) terminal vs no_intervals).most p ≤ M * length vs
      sums_taken_are_small vs p =
          omega (arith, most_is_small (parent_of ls (elimination ls n)) (above ls n terminal c) terminal M capacities_above_are_small vs no_intervals p)

      pub sums_are_small : (p : ℕ) → (intervals ls n terminal c).most p ≤ M * length (elimination ls n)
      unfolding intervals
      sums_are_small = sums_taken_are_small (elimination ls n)

-- pairs that are sound for such loads, in whole circuits
pairs_of_loads : {ls : Links} {n : ℕ} {terminal c x owner : ℕ → ℕ} → LargestWhole ls n terminal c x owner → (es : List Pair) → Sound ls n terminal x es
    → Each (λ e. Even e.amount) es → PairsWhole ls n terminal c x owner es
pairs_of_loads w es s even = record {
  plan = record { routes = s.routes; even = even; fits = λ j l. omega (arith, s.loads j l, w.loads.below j l) };
  sound = s;
  sums = s.sums;
  largest = λ fs h. omega (arith, s.sums, w.largest fs h);
  sizes = omega (arith, s.sums, w.sizes);
}

-- so the pair list over all parts, for any terminals (02, Card 7)
pub the_pairs_of_parts_of_whole_loads : {ls : Links} {n : ℕ} → Tree ls n → {terminal c x owner : ℕ → ℕ}
    → LargestWhole ls n terminal c x owner → PairsWhole ls n terminal c x owner (pair_list_of_parts ls n x terminal)
the_pairs_of_parts_of_whole_loads {ls} {n} T {terminal} {x = x} w = pairs_of_loads w (pair_list_of_parts ls n x terminal)
    (pair_list_of_parts_is_sound T terminal x w.loads.balanced) (pair_list_of_parts_is_even T terminal x w.loads.even)
