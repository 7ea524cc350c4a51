-- The theorems of the pairing on parts, for any tree, any terminals and balanced capacities t; nothing of trimming is used but that no link is heavy.
-- Each link is in just one part, so what the parts cover adds up (Shares). `Sound` (its own file) is what document 01 says of the pairs; the induction
-- behind it is `Good` (Handed).
use Rattle.std.specs.Prelude.{◌≡◌, refl, ◌≢◌, length}
use Rattle.std.proofs.Common.{arith}
use mathlib.Core.List.{List, [], ◌∷◌, ◌++◌, flat_map}
use Prim.Native.Nat.{ℕ, zero, suc, ◌+◌, ◌*◌, ◌≤◌, ◌<◌}
use Rattle.lists.specs.Numbers.{is, over, upfrom, Each}
use Rattle.lists.specs.Sums.{pick_cases}
use Rattle.lists.specs.Tallies.{each_append}
use Rattle.model.specs.Flows.{Links, Site, sites, one, two, sum_at, Tree}
use Rattle.model.specs.Trimming.{Balanced}
use Rattle.model.specs.Pairing.{put, give, walk, pairs_from}
use Rattle.model.specs.Parts.{single, region, in_part, root, pairs_of_part, pair_of_link, pairs_of_parts, pair_list_of_parts}
use Rattle.model.specs.declared.Pair.{Pair}
use Rattle.theory_trees.specs.Sites.{sites-site}
use Rattle.theory_walk.specs.Sound.{Sound}
use Rattle.theory_walk.specs.Order.{same-each, ordered_same}
use Rattle.theory_walk.specs.Evens.{Even, EvenPair, even_everywhere, root_even}
use Rattle.theory_walk.specs.Subtrees.{Entered}
use Rattle.theory_walk.specs.Walk.{size-le, walk_fuel}
use Rattle.theory_walk.specs.Bounds.{loads_bound_amounts}
use Rattle.theory_walk.specs.Regions.{position, one-part}
use Rattle.theory_walk.specs.Shares.{covers_both, covers_each, covers_sound}
use Rattle.theory_walk.specs.PartCovers.{link_covers, root_covers}

module _ {ls : Links} {n : ℕ} (T : Tree ls n) (terminal t : ℕ → ℕ) where
  module _ (B : Balanced ls terminal t) where
    -- the pairs of all parts: loads of exactly twice the capacities, between different terminals with no other between them, each pair once, at most one
    -- for a link in all
    pub pairs_of_parts_are_sound : Sound ls n terminal t (pairs_of_parts ls n t terminal)
    unfolding pairs_of_parts
    pairs_of_parts_are_sound =
        let s : ℕ → ℕ → ℕ = λ v j. root ls terminal n v * in_part ls terminal (region ls terminal v) j in
        let r : ℕ → ℕ → ℕ = λ k j. is k j * single ls terminal k in
        let positions = upfrom 0 (length ls) in
        let vs = flat_map (pairs_of_part ls n t terminal) (sites n) in
        let ks = flat_map (pair_of_link ls n t terminal) positions in
        covers_sound T terminal t (λ j. over (sites n) (λ v. s v j) + over positions (λ k. r k j)) (vs ++ ks) (λ j l. one-part T terminal j l)
        (covers_both T terminal t (λ j. over (sites n) (λ v. s v j)) (λ j. over positions (λ k. r k j)) vs ks
        (covers_each T terminal t (sites n) s (pairs_of_part ls n t terminal) (λ v m. root_covers T terminal t B v (sites-site n v m)))
        (covers_each T terminal t positions r (pair_of_link ls n t terminal) (λ k m. link_covers T terminal t k (position (length ls) k m))))

  -- ---- whole circuits

  parts_each : (P : Pair → Type 0) (f : ℕ → List Pair) → ((u : ℕ) → Each P (f u)) → (us : List ℕ) → Each P (flat_map f us)
  unfolding flat_map
  parts_each P f h [] = tt
  parts_each P f h (u ∷ us) = each_append P (f u) (flat_map f us) (h u) (parts_each P f h us)

  along_even : (k a : ℕ) → Even a → Each EvenPair (give (one ls k) (put (two ls k) a []))
  unfolding give put
  along_even k zero p = tt
  along_even k (suc a) p = (p, tt)

  module _ (sums : (v : ℕ) → Site n v → terminal v ≢ 1 → Even (sum_at ls v t)) where
    -- where the capacities at every inner site sum to an even number, every amount is even
    pub amounts_of_parts_are_even : Each EvenPair (pairs_of_parts ls n t terminal)
    unfolding pairs_of_parts pairs_of_part pair_of_link
    amounts_of_parts_are_even =
        let positions = upfrom 0 (length ls) in
        let all = even_everywhere ls n t terminal T.ends sums in
        each_append EvenPair (flat_map (pairs_of_part ls n t terminal) (sites n)) (flat_map (pair_of_link ls n t terminal) positions)
        (parts_each EvenPair (pairs_of_part ls n t terminal) (λ v. pick_cases (Each EvenPair) (root ls terminal n v) 1 (pairs_from ls n t terminal v) []
        (λ e. root_even ls n t terminal all v) (λ d. tt)) (sites n))
        (parts_each EvenPair (pair_of_link ls n t terminal) (λ k. pick_cases (Each EvenPair) (single ls terminal k) 1
        (give (one ls k) (put (two ls k) (2 * t k) [])) [] (λ e. along_even k (2 * t k) (t k, refl)) (λ d. tt)) positions)

    -- in the pair list too
    pub pair_list_of_parts_is_even : Each EvenPair (pair_list_of_parts ls n t terminal)
    unfolding pair_list_of_parts
    pair_list_of_parts_is_even = same-each EvenPair (λ e p. p) (ordered_same (pairs_of_parts ls n t terminal)) amounts_of_parts_are_even

  -- ---- bounds

  -- no amount passes twice the greatest capacity
  pub amounts_are_bounded : (es : List Pair) → Sound ls n terminal t es → (m : ℕ) → ((j : ℕ) → j < length ls → t j ≤ m) → Each (λ e. e.amount ≤ 2 * m) es
  amounts_are_bounded es h m b = loads_bound_amounts T terminal (2 * m) es h.routes (λ j l. omega (arith, h.loads j l, b j l))

  -- the fuel n is enough: more of it gives the same walk
  pub more_fuel_changes_nothing : (fuel v j up down : ℕ) → Site n v → Entered ls j v → n ≤ fuel
      → walk ls n t terminal fuel v j up down ≡ walk ls n t terminal n v j up down
  more_fuel_changes_nothing fuel v j up down pv en l = let s = size-le ls n j v in walk_fuel T t terminal fuel n v j up down pv en (omega arith) s
