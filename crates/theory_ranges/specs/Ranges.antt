-- Bounds for sizes that are known as ranges (document 02, Card 11): for every choice of capacities between low and high ones, link by link, the balanced
-- capacities and the largest total lie between those of the low and those of the high ones. By monotonicity; the ends are themselves choices.
use Rattle.std.specs.Prelude.{◌≡◌, List, ℕ, ◌*◌, ◌≤◌, length}
use Rattle.std.proofs.Common.{mul-le-mul_left, arith}
use Rattle.lists.specs.Numbers.{is, look}
use Rattle.lists.specs.Places.{over-le}
use Rattle.model.specs.Flows.{Links, sites, sum_at, Tree, Below, Multiflow, Fits, total, at_terminals}
use Rattle.model.specs.Parts.{pair_list_of_parts}
use Rattle.model.specs.Trimming.{balanced}
use Rattle.model.specs.declared.Pair.{Pair}
use Rattle.theory_trees.proofs.Greatest.{balanced_is_greatest, balanced_grows}
use Rattle.theory_trees.specs.Sites.{sum_at_mono}
use Rattle.theory_walk.proofs.PartsTheorem.{pair_list_of_parts_is_sound, pair_list_of_parts_has_the_greatest_total}

-- a choice of capacities in the ranges from low to high: a whole number for each link, between its low and its high one
pub record Choice (ls : Links) (low high c : List ℕ) : Type 0 where
  pub each : length c ≡ length ls
  pub above : Below ls (look low) (look c)
  pub below : Below ls (look c) (look high)

-- the capacities at the terminals sum to more where they are greater
pub the_sum_at_the_terminals_grows : (ls : Links) (n : ℕ) (terminal t u : ℕ → ℕ) → Below ls t u → at_terminals ls n terminal t ≤ at_terminals ls n terminal u
unfolding at_terminals
the_sum_at_the_terminals_grows ls n terminal t u b =
    over-le (sites n) (λ w. is (terminal w) 1 * sum_at ls w t) (λ w. is (terminal w) 1 * sum_at ls w u)
    (λ w q. mul-le-mul_left (is (terminal w) 1) (sum_at_mono ls w t u (λ i l a. b i l)))

module _ {ls : Links} {n : ℕ} (T : Tree ls n) (terminal : ℕ → ℕ) where
  -- the largest total, in halves: that of the pair list
  abbrev pub largest_total : List ℕ → ℕ
  largest_total c = total (pair_list_of_parts ls n (look (balanced ls n terminal c)) terminal)

  -- it is the sum of the balanced capacities at the terminals
  pub the_largest_total_is_the_sum_at_the_terminals : (c : List ℕ) → largest_total c ≡ at_terminals ls n terminal (look (balanced ls n terminal c))
  the_largest_total_is_the_sum_at_the_terminals c =
      (pair_list_of_parts_is_sound T terminal (look (balanced ls n terminal c)) (balanced_is_greatest T terminal c).balanced).sums

  -- no plan over free pairs that fits, in parts of any size, has a greater total
  pub no_plan_has_a_greater_total : (c : List ℕ) (fs : List Pair) → Multiflow ls n terminal fs → (parts : ℕ) → Fits ls parts (look c) fs
      → 2 * total fs ≤ parts * largest_total c
  no_plan_has_a_greater_total c = pair_list_of_parts_has_the_greatest_total T terminal (look (balanced ls n terminal c)) (look c)
      (balanced_is_greatest T terminal c)

  -- greater capacities have a greater largest total
  pub the_largest_total_grows : (c d : List ℕ) → Below ls (look c) (look d) → largest_total c ≤ largest_total d
  the_largest_total_grows c d b = omega (
    arith,
    the_largest_total_is_the_sum_at_the_terminals c,
    the_largest_total_is_the_sum_at_the_terminals d,
    the_sum_at_the_terminals_grows ls n terminal (look (balanced ls n terminal c)) (look (balanced ls n terminal d)) (balanced_grows T terminal c d b),
  )

  module _ (low high : List ℕ) where
    -- for every choice the balanced capacities lie within those of the low and of the high ones, link by link
    pub every_choice_is_balanced_within : (c : List ℕ) → Choice ls low high c → let t = balanced ls n terminal c in
        Below ls (look (balanced ls n terminal low)) (look t) × Below ls (look t) (look (balanced ls n terminal high))
    every_choice_is_balanced_within c w = (balanced_grows T terminal low c w.above, balanced_grows T terminal c high w.below)

    -- and so does the largest total
    pub every_choice_has_its_total_within : (c : List ℕ) → Choice ls low high c → (largest_total low ≤ largest_total c) × (largest_total c ≤ largest_total high)
    every_choice_has_its_total_within c w = (the_largest_total_grows low c w.above, the_largest_total_grows c high w.below)

    -- the low and the high capacities are choices themselves, so both bounds are reached
    pub the_low_ones_are_a_choice : length low ≡ length ls → Below ls (look low) (look high) → Choice ls low high low
    the_low_ones_are_a_choice e b = record { each = e; above = λ j l. omega arith; below = b }

    pub the_high_ones_are_a_choice : length high ≡ length ls → Below ls (look low) (look high) → Choice ls low high high
    the_high_ones_are_a_choice e b = record { each = e; above = b; below = λ j l. omega arith }
