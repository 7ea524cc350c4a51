-- Card 10 of document 02 for two regions: what they are given after the exchange is the trimmed sizes of their joined tree, link by link, and the two sums
-- added are its total in halves, the largest that a plan of it has, however finely cut.
use Rattle.std.specs.Prelude.{◌≡◌, ℕ, ◌+◌}
use Rattle.std.proofs.Math.Path.{sym}
use native.Mathlib.Omega.{arith}
use Rattle.lists.specs.Numbers.{look}
use Rattle.model.specs.Flows.{total}
use Rattle.theory_trees.proofs.Greatest.{balanced_is_greatest}
use Rattle.theory_walk.proofs.PartsTheorem.{pair_list_of_parts_is_sound}
use Rattle.theory_regions.specs.Regions.{Region, ends_in, trimmed, first_size, trimmed_again, far_site, own_sum, given}
use Rattle.theory_regions.specs.JoinedTree.{Border, Joins, position, joined_tree}
use Rattle.theory_regions.proofs.Exchange.{sizes_of_the_joined_tree}
use Rattle.theory_regions.specs.Totals.{the_joined_tree_is_a_tree}
use Rattle.theory_regions.proofs.Totals.{own_sums_add_up}
use Rattle.theory_regions.proofs.Numbered.{the_joined_tree_joins}
use Rattle.theory_regions.proofs.FarSites.{a_region_finds_its_far_site}
use Rattle.theory_regions.specs.TwoRegions.{Neighbours, plan_of, the_plan_has_the_largest_total, OfTheJoinedTree, first_given, second_given}

module _ {a b : Region} {p q : Border} (M : Neighbours a p b q) where
  -- however the joined tree is numbered
  pub two_regions_have_what_every_joined_tree_has : {t : Region} {site₁ link₁ site₂ link₂ : ℕ → ℕ} → Joins a p b q t site₁ link₁ site₂ link₂
      → OfTheJoinedTree a b t link₁ link₂ (first_given M) (second_given M)
  unfolding given
  two_regions_have_what_every_joined_tree_has {t} J =
      let A = M.first in
      let B = M.second in
      let u = trimmed_again a p.shared (first_size b q.shared) in
      let v = trimmed_again b q.shared (first_size a p.shared) in
      let T = the_joined_tree_is_a_tree A B J in
      let same = sizes_of_the_joined_tree A B J T in
      let sound = pair_list_of_parts_is_sound T (ends_in t) (look (trimmed t)) (balanced_is_greatest T (ends_in t) t.capacities).balanced in
      let sum : own_sum a (far_site a p.shared) u + own_sum b (far_site b q.shared) v ≡ total (plan_of t) = omega (
        arith,
        a_region_finds_its_far_site A M.first_plain u,
        a_region_finds_its_far_site B M.second_plain v,
        own_sums_add_up A B J (trimmed t) u v same.0 same.1,
        sound.sums,
      ) in
      record {
        tree = T;
        first = λ i l. sym (same.0 i l);
        second = λ k l. sym (same.1 k l);
        sums = sum;
        largest = rw sum (the_plan_has_the_largest_total t T);
      }

  -- and there is one
  pub the_joined_tree_of_two_regions : OfTheJoinedTree a b (joined_tree a p b q) (λ i. i) (position a p b q) (first_given M) (second_given M)
  the_joined_tree_of_two_regions = two_regions_have_what_every_joined_tree_has (the_joined_tree_joins M.first M.second M.one_size)
