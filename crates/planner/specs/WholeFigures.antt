-- The figures in whole circuits can be shown: they are loads and sets of which all that Card 2 asks holds, by the theorem about the loads taken.
use Rattle.std.specs.Prelude.{◌≡◌, List, ℕ, ◌*◌, ◌%◌, ◌≤◌, length}
use Rattle.std.proofs.Math.Path.{sym, ap, fun_ext}
use Rattle.std.proofs.Common.{◌∙◌}
use native.Mathlib.Omega.{arith}
use Rattle.std.proofs.Math.Nat.{mul-le-mul_right}
use Rattle.std.proofs.Math.Decide.{dec_lt}
use Rattle.std.proofs.Math.ListN.{length-map, get_or-eq_default}
use Rattle.lists.specs.Numbers.{is, upfrom, look}
use Rattle.model.specs.Flows.{Links, Tree}
use Rattle.model.specs.Trimming.{unvisited, elimination}
use Rattle.model.specs.Whole.{LargestWhole, set_size, set_count, piece, in_piece, leaving_piece, odd_pieces}
use Rattle.model.specs.WholeLoads.{from, upward, link_load, loading, whole_load, whole_loads, whole_owner}
use Rattle.lists.specs.Sums.{cases, is_le, is-other}
use Rattle.lists.specs.Places.{length-upfrom, look_values, over-eq, over-mul}
use Rattle.theory_trees.specs.Sites.{sum_at-none}
use Rattle.theory_trees.proofs.Ends.{a_leaf_is_an_end}
use Rattle.theory_whole.proofs.Circuits.{the_loads_taken_are_largest}
use Rattle.sheet.specs.Sheet.{Network}
use Rattle.planner.specs.Figures.{terminal, wholes, Showable, leaving-within, members-within}

-- there is no load past the links
module _ (ls : Links) (j : ℕ) (past : length ls ≤ j) where
  no_link : (us : List ℕ) (v : ℕ) → upward ls us v (λ i. is i j) ≡ 0
  unfolding upward
  no_link us v = sum_at-none ls v (λ i. unvisited ls (from us v) i * is i j) (λ i l a. rw (is-other {u = i} {v = j} (λ e. omega arith)) (omega arith))

  no_load : (us : List ℕ) (x : ℕ → ℕ) → link_load ls us x j ≡ 0
  unfolding link_load
  no_load us x = omega (
    arith,
    over-eq us (λ v. upward ls us v (λ i. is i j) * x v) (λ v. 0 * x v) (λ v q. ap (λ y. y * x v) (no_link us v)),
    over-mul us 0 x,
  )

module _ (net : Network) (T : Tree net.links (length net.names)) where
  abbrev ls : Links
  ls = net.links

  abbrev n : ℕ
  n = length net.names

  abbrev c : ℕ → ℕ
  c = look net.capacities

  abbrev own : ℕ → ℕ
  own = whole_owner ls n (terminal net) c

  loads_listed : length (whole_loads ls n (terminal net) c) ≡ length ls
  unfolding whole_loads
  loads_listed = length-map (upfrom 0 (length ls)) (whole_load ls n (terminal net) c) ∙ length-upfrom 0 (length ls)

  -- the list of the loads says them all
  load_of_each_link : (j : ℕ) → look (whole_loads ls n (terminal net) c) j ≡ whole_load ls n (terminal net) c j
  unfolding whole_loads whole_load
  load_of_each_link j = cases (dec_lt j (length ls))
      (λ l. look_values (whole_load ls n (terminal net) c) (length ls) j l)
      (λ d. get_or-eq_default (whole_loads ls n (terminal net) c) 0 {n = j} (omega (arith, loads_listed))
      ∙ sym (no_load ls j (omega arith) (elimination ls n) (loading ls n (terminal net) c).load))

  -- all that the card says holds of the loads and the sets shown
  pub wholes_are_largest : LargestWhole ls n (terminal net) c (look (wholes net).shown) own
  wholes_are_largest = rw (fun_ext load_of_each_link)
      (the_loads_taken_are_largest T (terminal net) (λ v p e. a_leaf_is_an_end ls n net.marks v p.1 e) c)

  odd_or_not : (p : ℕ) → in_piece ls c own p p * (leaving_piece ls c own p % 2) ≤ 1
  unfolding in_piece
  odd_or_not p =
      let one : in_piece ls c own p p ≤ 1 = omega (arith, mul-le-mul_right (is (piece ls c own p) p) (is_le (own p) 0), is_le (piece ls c own p) p) in
      omega (arith, mul-le-mul_right (leaving_piece ls c own p % 2) one)

  pub wholes_can_be_shown : Showable net (wholes net)
  unfolding set_size set_count odd_pieces
  wholes_can_be_shown = record {
    short = omega arith;
    long = omega arith;
    plain = omega arith;
    each-link = loads_listed;
    below = wholes_are_largest.loads.below;
    balanced = wholes_are_largest.loads.balanced;
    owned = wholes_are_largest.sets.owned;
    sizes = λ a. leaving-within net (λ x. is (own x) a);
    counts = λ a. members-within net (λ x. is (own x) a) (λ x. is_le (own x) a);
    one-piece-line = omega arith;
    few_pieces = (members-within net (λ p. in_piece ls c own p p * (leaving_piece ls c own p % 2)) odd_or_not, tt);
  }
