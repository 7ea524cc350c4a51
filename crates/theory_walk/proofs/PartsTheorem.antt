-- The theorems of the pairing on parts, for any tree, any terminals and balanced capacities t; nothing of trimming is used but that no link is heavy.
use Rattle.std.specs.Prelude.{◌≡◌}
use Rattle.std.proofs.Common.{sym, ◌∙◌, arith}
use mathlib.Core.List.{List, []}
use Prim.Native.Nat.{ℕ, ◌*◌, ◌≤◌, ◌<◌}
use Rattle.lists.specs.Numbers.{is, over, Each}
use Rattle.lists.specs.Tallies.{each_map, each_both}
use Rattle.model.specs.Flows.{Links, sites, Tree, Route, Multiflow, Fits, total}
use Rattle.model.specs.Trimming.{Balanced, Greatest}
use Rattle.model.specs.Pairing.{ordered}
use Rattle.model.specs.Cuts.{cut_size}
use Rattle.model.specs.Parts.{free_pair, pairs_of_parts, pair_list_of_parts}
use Rattle.model.specs.declared.Pair.{Pair}
use Rattle.theory_trees.proofs.TerminalCuts.{cut_sizes_sum_to_the_terminals}
use Rattle.theory_trees.specs.FreePairs.{free_iff_route}
use Rattle.theory_trees.proofs.Bounds.{a_full_multiflow_has_the_greatest_total}
use Rattle.theory_walk.specs.Sound.{Sound, Ascending}
use Rattle.theory_walk.specs.Order.{sound_same, ordered_same, ordered-lower, ordered_ascending}
use Rattle.theory_walk.specs.PartsTheorem.{pairs_of_parts_are_sound}

module _ {ls : Links} {n : ℕ} (T : Tree ls n) (terminal t : ℕ → ℕ) where
  module _ (B : Balanced ls terminal t) where
    -- so is the pair list
    pub pair_list_of_parts_is_sound : Sound ls n terminal t (pair_list_of_parts ls n t terminal)
    unfolding pair_list_of_parts
    pair_list_of_parts_is_sound = let ps = pairs_of_parts ls n t terminal in sound_same T terminal t ps (ordered ps) (ordered_same ps) (pairs_of_parts_are_sound T terminal t B)

    -- it ascends, by first site, then by second
    pub pair_list_of_parts_ascends : Ascending (pair_list_of_parts ls n t terminal)
    unfolding pair_list_of_parts
    pair_list_of_parts_ascends = ordered_ascending (pairs_of_parts ls n t terminal) pair_list_of_parts_is_sound.once

    -- and the lower site is first in each pair
    pub pair_list_of_parts_lower_first : Each (λ e. e.first < e.second) (pair_list_of_parts ls n t terminal)
    pair_list_of_parts_lower_first = each_both (Route ls n terminal) (λ e. e.first ≤ e.second) (λ e. e.first < e.second)
        (λ e r l. let d = r.different in omega arith) (pair_list_of_parts ls n t terminal) pair_list_of_parts_is_sound.routes
        (unfold pair_list_of_parts in ordered-lower (pairs_of_parts ls n t terminal))

    -- every pair is free to be joined
    pub pair_list_of_parts_is_free : Each (λ e. free_pair ls terminal e.first e.second ≡ 1) (pair_list_of_parts ls n t terminal)
    pair_list_of_parts_is_free = each_map (Route ls n terminal) (λ e. free_pair ls terminal e.first e.second ≡ 1)
        (λ e r. (free_iff_route ls terminal n T.ends e r.first-site r.second-site).1 r)
        (pair_list_of_parts ls n t terminal) pair_list_of_parts_is_sound.routes

  -- the sizes of the terminal cuts sum to its total, in halves
  pub cut_sizes_sum_to_the_total : (c : ℕ → ℕ) → Greatest ls terminal c t
      → over (sites n) (λ a. is (terminal a) 1 * cut_size ls c t a) ≡ total (pair_list_of_parts ls n t terminal)
  cut_sizes_sum_to_the_total c g = cut_sizes_sum_to_the_terminals T terminal g ∙ sym (pair_list_of_parts_is_sound g.balanced).sums

  -- where t are the greatest balanced capacities below c, no plan over free pairs that fits c, in parts of any size, has a greater total
  pub pair_list_of_parts_has_the_greatest_total : (c : ℕ → ℕ) → Greatest ls terminal c t → (fs : List Pair) → Multiflow ls n terminal fs
      → (parts : ℕ) → Fits ls parts c fs → 2 * total fs ≤ parts * total (pair_list_of_parts ls n t terminal)
  pair_list_of_parts_has_the_greatest_total c g fs m parts f =
      let s = pair_list_of_parts_is_sound g.balanced in
      a_full_multiflow_has_the_greatest_total T terminal g (pair_list_of_parts ls n t terminal) s.routes 2 s.loads fs m parts f
