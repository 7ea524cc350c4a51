-- The balanced capacities of a tree are the greatest, and what follows from that alone: they are unique, grow with the given ones,
-- are their own balanced capacities, and do not depend on the order in which the sites are taken.
use Rattle.std.specs.Prelude.{◌≡◌, ℕ, ◌*◌, ◌<◌}
use Rattle.std.proofs.Common.{sym, ◌∙◌, ext_get_or}
use mathlib.Core.List.{List, [], ◌∷◌, map}
use native.Mathlib.Omega.{arith}
use Rattle.std.proofs.Math.Nat.{mul-le-mul_left}
use Rattle.std.proofs.Math.ListN.{length}
use Rattle.lists.specs.Numbers.{count, upfrom, look}
use Rattle.model.specs.Flows.{Links, Tree, Below}
use Rattle.model.specs.Trimming.{Balanced, Greatest, elimination, InwardOrder, balanced_along, balanced}
use Rattle.lists.specs.Places.{look_values}
use Rattle.theory_trees.proofs.Passes.{length-balanced_along, passes_keep_what_is_balanced, balanced_along_is_greatest}
use Rattle.theory_trees.proofs.Orders.{elimination_is_inward}

-- ---- what "greatest" alone gives

module _ (ls : Links) (terminal : ℕ → ℕ) where
  -- greater capacities have greater balanced ones
  pub greatest_grows : {c d t u : ℕ → ℕ} → Greatest ls terminal c t → Greatest ls terminal d u → Below ls c d → Below ls t u
  greatest_grows {t = t} g h b = h.greatest t g.balanced (λ j l. omega (arith, g.below j l, b j l))

  pub greatest_is_unique : {c t u : ℕ → ℕ} → Greatest ls terminal c t → Greatest ls terminal c u → (j : ℕ) → j < length ls → t j ≡ u j
  greatest_is_unique g h j l = omega (arith, greatest_grows g h (λ i k. omega arith) j l, greatest_grows h g (λ i k. omega arith) j l)

  -- balanced capacities are their own greatest
  pub balanced_is_its_own_greatest : {t : ℕ → ℕ} → Balanced ls terminal t → Greatest ls terminal t t
  balanced_is_its_own_greatest b = record { below = λ j l. omega arith; balanced = b; greatest = λ s _ h. h }

  -- so as lists of one capacity for each link they are equal
  pub greatest_lists_are_equal : (c t u : List ℕ) → Greatest ls terminal (look c) (look t) → Greatest ls terminal (look c) (look u)
      → length t ≡ length ls → length u ≡ length ls → t ≡ u
  greatest_lists_are_equal c t u g h lt lu = ext_get_or 0 t u (lt ∙ sym lu) (λ j l. greatest_is_unique g h j (omega arith))

-- ---- in a tree

module _ {ls : Links} {n : ℕ} (T : Tree ls n) (terminal : ℕ → ℕ) where
  -- an order from outside inward has a site, so there is a capacity for each link
  pub balanced_along_has_each_link : (order : List ℕ) → InwardOrder ls n order → (c : List ℕ) → length (balanced_along ls terminal order c) ≡ length ls
  unfolding count
  balanced_along_has_each_link [] o c = absurd (omega (arith, o.all 1 (omega arith, omega arith)))
  balanced_along_has_each_link (v ∷ vs) o c = length-balanced_along ls terminal v vs c

  -- the order does not matter
  pub any_order_balances_alike : (o p : List ℕ) → InwardOrder ls n o → InwardOrder ls n p → (c : List ℕ)
      → balanced_along ls terminal o c ≡ balanced_along ls terminal p c
  any_order_balances_alike o p h k c =
      greatest_lists_are_equal ls terminal c (balanced_along ls terminal o c) (balanced_along ls terminal p c)
      (balanced_along_is_greatest ls terminal T.ends o h c) (balanced_along_is_greatest ls terminal T.ends p k c)
      (balanced_along_has_each_link o h c) (balanced_along_has_each_link p k c)

  -- the balanced capacities are the greatest that pass the given ones on no link and leave no inner site with a heavy link
  pub balanced_is_greatest : (c : List ℕ) → Greatest ls terminal (look c) (look (balanced ls n terminal c))
  unfolding balanced
  balanced_is_greatest c = balanced_along_is_greatest ls terminal T.ends (elimination ls n) (elimination_is_inward T) c

  pub balanced_has_each_link : (c : List ℕ) → length (balanced ls n terminal c) ≡ length ls
  unfolding balanced
  balanced_has_each_link c = balanced_along_has_each_link (elimination ls n) (elimination_is_inward T) c

  -- and no other list is
  pub greatest_is_balanced : (c t : List ℕ) → length t ≡ length ls → Greatest ls terminal (look c) (look t) → t ≡ balanced ls n terminal c
  greatest_is_balanced c t e g =
      greatest_lists_are_equal ls terminal c t (balanced ls n terminal c) g (balanced_is_greatest c) e (balanced_has_each_link c)

  -- balanced capacities grow with the given ones
  pub balanced_grows : (c d : List ℕ) → Below ls (look c) (look d) → Below ls (look (balanced ls n terminal c)) (look (balanced ls n terminal d))
  balanced_grows c d = greatest_grows ls terminal (balanced_is_greatest c) (balanced_is_greatest d)

  -- balanced once more they stay
  pub balanced-again : (c : List ℕ) → balanced ls n terminal (balanced ls n terminal c) ≡ balanced ls n terminal c
  balanced-again c =
      let t = balanced ls n terminal c in
      sym (greatest_is_balanced t t (balanced_has_each_link c) (balanced_is_its_own_greatest ls terminal (balanced_is_greatest c).balanced))

  -- whatever is balanced and fits in k times c fits in k times the greatest, for every k
  pub greatest_keeps_what_is_balanced : {c t : ℕ → ℕ} → Greatest ls terminal c t → (k : ℕ) (f : ℕ → ℕ) → Balanced ls terminal f
      → Below ls f (λ j. k * c j) → Below ls f (λ j. k * t j)
  unfolding balanced
  greatest_keeps_what_is_balanced {c} {t} g k f b h j l =
      let given = map c (upfrom 0 (length ls)) in
      let is_c : (i : ℕ) → i < length ls → look given i ≡ c i = look_values c (length ls) in
      omega (
        arith,
        passes_keep_what_is_balanced ls terminal (elimination ls n) k given f b (λ i p. rw (is_c i p) (h i p)) j l,
        mul-le-mul_left k (greatest_grows ls terminal (balanced_is_greatest given) g (λ i p. omega (arith, is_c i p)) j l),
      )
