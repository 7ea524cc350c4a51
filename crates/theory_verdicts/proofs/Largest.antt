-- Whether a plan drawn by hand is one of the largest: its total is the sum of the trimmed sizes at the ends exactly if no plan that fits, however finely
-- cut, has a greater total. By the plan of the pairing, which fits and has that sum as its total.
use Rattle.std.specs.Prelude.{◌≡◌, ◌↔◌, List, ℕ, ◌≤◌}
use Rattle.std.proofs.Common.{arith}
use Rattle.lists.specs.Numbers.{look}
use Rattle.model.specs.Flows.{Links, Tree, Multiflow, Fits, total}
use Rattle.model.specs.Trimming.{balanced}
use Rattle.model.specs.Parts.{pair_list_of_parts}
use Rattle.model.specs.declared.Pair.{Pair}
use Rattle.theory_trees.proofs.Greatest.{balanced_is_greatest}
use Rattle.theory_walk.proofs.PartsTheorem.{pair_list_of_parts_is_sound, pair_list_of_parts_has_the_greatest_total}
use Rattle.theory_verdicts.specs.HandPlan.{largest_total}
use Rattle.theory_verdicts.specs.Largest.{NoneGreater}

module _ {ls : Links} {n : ℕ} (T : Tree ls n) (terminal : ℕ → ℕ) (c : List ℕ) where
  abbrev best : List Pair
  best = pair_list_of_parts ls n (look (balanced ls n terminal c)) terminal

  best-total : total best ≡ largest_total ls n terminal c
  unfolding largest_total
  best-total = (pair_list_of_parts_is_sound T terminal (look (balanced ls n terminal c)) (balanced_is_greatest T terminal c).balanced).sums

  -- no plan has more than the sum of the trimmed sizes at the ends
  pub none_is_greater_than_the_largest : NoneGreater ls n terminal c (largest_total ls n terminal c)
  none_is_greater_than_the_largest fs m k some f =
      rw best-total at
      (pair_list_of_parts_has_the_greatest_total T terminal (look (balanced ls n terminal c)) (look c) (balanced_is_greatest T terminal c) fs m k f)

  -- so a plan in halves that fits has at most that much
  pub a_fitting_plan_has_at_most_the_largest_total : (es : List Pair) → Multiflow ls n terminal es → Fits ls 2 (look c) es
      → total es ≤ largest_total ls n terminal c
  a_fitting_plan_has_at_most_the_largest_total es m f = omega (arith, none_is_greater_than_the_largest es m 2 (omega arith) f)

  -- and one that fits has that much exactly if none has more
  pub a_plan_has_the_largest_total_exactly_if_none_is_greater : (es : List Pair) → Multiflow ls n terminal es → Fits ls 2 (look c) es
      → (total es ≡ largest_total ls n terminal c) ↔ NoneGreater ls n terminal c (total es)
  a_plan_has_the_largest_total_exactly_if_none_is_greater es m f =
      let g = balanced_is_greatest T terminal c in
      let s = pair_list_of_parts_is_sound T terminal (look (balanced ls n terminal c)) g.balanced in (
        λ e. rw e none_is_greater_than_the_largest,
        λ none. let least = none best s.routes 2 (omega arith) (λ j l. omega (arith, s.loads j l, g.below j l)) in
            omega (arith, best-total, a_fitting_plan_has_at_most_the_largest_total es m f),
      )
