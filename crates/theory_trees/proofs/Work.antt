-- The work inward and back out, in the words of document 02, Card 3: what is taken, what is cut, and that any order of such sites ends in the same sizes.
use Rattle.std.specs.Prelude.{◌≡◌, refl, ◌≢◌, List, [], ◌∷◌, reverse, ℕ, ◌<◌, length}
use Rattle.std.proofs.Common.{sym, arith}
use Rattle.std.proofs.Math.Decide.{ℕ_discrete, dec_le}
use Rattle.lists.specs.Numbers.{pick, is, sum, count, upfrom}
use Rattle.model.specs.Flows.{Links, Tree, sites, at, sum_at, others}
use Rattle.model.specs.Trimming.{Heavy, InwardOrder, cut_at, cut_sites, unvisited, first, remove, taken, elimination, balanced_along, balanced}
use Rattle.lists.specs.Sums.{same?}
use Rattle.theory_trees.proofs.Cutting.{cut_at-at, cut_at_away, cut_at-terminal, other-le}
use Rattle.theory_trees.specs.Orders.{Lowest}
use Rattle.theory_trees.proofs.Orders.{elimination_is_inward, elimination_takes_the_lowest}
use Rattle.theory_trees.proofs.Greatest.{any_order_balances_alike}
use Rattle.theory_trees.specs.Runs.{Run}
use Rattle.theory_trees.proofs.Runs.{runs_are_the_inward_orders}

-- ---- what is cut at a site

module _ (ls : Links) (terminal : ℕ → ℕ) (v : ℕ) (c : ℕ → ℕ) where
  -- at most one link at a site is heavy there
  pub one-link-is-heavy-at-most : (i j : ℕ) → i < length ls → j < length ls → at ls v i ≡ 1 → at ls v j ≡ 1 → Heavy ls c v i → Heavy ls c v j → i ≡ j
  one-link-is-heavy-at-most i j l k a b p q = same? i j (λ e. e)
      (λ d. absurd (omega (arith, other-le ls terminal v c i j l d a, other-le ls terminal v c j i k (λ e. d (sym e)) b)))

  -- a link heavy at a joint is cut to the sum of the other links there
  pub a_heavy_link_is_cut_to_the_others : terminal v ≢ 1 → (j : ℕ) → j < length ls → at ls v j ≡ 1 → Heavy ls c v j
      → cut_at ls terminal v c j ≡ others ls v j c
  a_heavy_link_is_cut_to_the_others m j l a h = omega (arith, cut_at-at ls terminal v c j m l a)

  -- no other link is cut: none that is not heavy there,
  pub a_link_that_is_not_heavy_is_kept : (j : ℕ) → j < length ls → at ls v j ≡ 1 → ¬ (Heavy ls c v j) → cut_at ls terminal v c j ≡ c j
  a_link_that_is_not_heavy_is_kept j l a h = same? (terminal v) 1
      (cut_at-terminal ls terminal v c j)
      (λ m. elim (dec_le (c j) (others ls v j c)) [
        | yes p ↦ omega (arith, cut_at-at ls terminal v c j m l a)
        | no p ↦ absurd (h (omega arith))
      ])

  -- none at another site, and none at an end
  pub a_link_elsewhere_is_kept : (j : ℕ) → at ls v j ≢ 1 → cut_at ls terminal v c j ≡ c j
  a_link_elsewhere_is_kept j a = cut_at_away ls terminal v c j a

  pub a_link_at_an_end_is_kept : (j : ℕ) → terminal v ≡ 1 → cut_at ls terminal v c j ≡ c j
  a_link_at_an_end_is_kept j m = cut_at-terminal ls terminal v c j m

-- ---- the order of work

-- inward along the order, then back out in the opposite order, cutting likewise
pub inward_then_back_out : (ls : Links) (n : ℕ) (terminal : ℕ → ℕ) (c : List ℕ)
    → balanced ls n terminal c ≡ cut_sites ls terminal (reverse (elimination ls n)) (cut_sites ls terminal (elimination ls n) c)
unfolding balanced balanced_along
inward_then_back_out ls n terminal c = refl

module _ {ls : Links} {n : ℕ} (T : Tree ls n) where
  -- each site is taken with at most one unvisited link, and is the lowest-numbered untaken one that has no more
  pub the_lowest_site_is_taken : InwardOrder ls n (elimination ls n) × Lowest ls (elimination ls n)
  the_lowest_site_is_taken = (elimination_is_inward T, elimination_takes_the_lowest T)

  -- whichever such site, lowest or not, is taken at each step, the work ends in the documented trimmed sizes
  pub whichever_site_is_taken_the_sizes_are_the_same : (terminal : ℕ → ℕ) (order : List ℕ) → Run ls (sites n) order → (c : List ℕ)
      → balanced_along ls terminal order c ≡ balanced ls n terminal c
  unfolding balanced
  whichever_site_is_taken_the_sizes_are_the_same terminal order run c =
      any_order_balances_alike T terminal order (elimination ls n) ((runs_are_the_inward_orders ls n order).0 run).0 (elimination_is_inward T) c

-- ---- the star hub, a, b, c gives 2, 3, 1, 4

the_star_in_order : elimination ((1, 2) ∷ (1, 3) ∷ (1, 4) ∷ []) 4 ≡ 2 ∷ 3 ∷ 1 ∷ 4 ∷ []
unfolding elimination taken first remove unvisited at sum_at sum count upfrom is pick ℕ_discrete dec_le
the_star_in_order = refl
