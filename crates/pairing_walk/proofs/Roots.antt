-- The walks from the roots, one after the other: each starts with the lists of ups and downs empty, and leaves them so, with the pairs of its part added.
use mathlib.Core.Path.{◌≡◌, refl, sym, ap}
use mathlib.Core.Logic.{◌≢◌, inr}
use mathlib.Core.List.{List, [], ◌∷◌, ◌++◌}
use Prim.Native.Nat.{ℕ, suc, ◌*◌, ◌≤◌}
use native.Mathlib.Omega.{arith}
use lib.ListN.{length}
use Rattle.model.specs.Limits.{SITES}
use Rattle.lists.specs.Numbers.{look, Each}
use Rattle.model.specs.Flows.{Site}
use Rattle.model.specs.Pairing.{Halves, pairs_from}
use Rattle.model.specs.declared.Pair.{Pair}
use Rattle.tree.specs.Offer.{links}
use Rattle.tree.specs.Links.{length-links}
use Rattle.theory_walk.specs.Halves.{Filled}
use Rattle.theory_walk.specs.Walk.{size-le}
use Rattle.theory_walk.specs.Bounds.{walk_short}
use Rattle.theory_walk.proofs.Bounds.{walk-filled}
use Rattle.theory_walk.proofs.PartsLoops.{few_after_sites}
use Rattle.pairing_halves.specs.declared.Tops.{Tops}
use Rattle.pairing_halves.specs.Arrays.{Added}
use Rattle.pairing_halves.specs.Adding.{added_more}
use Rattle.pairing_walk.specs.Visits.{walk_of, Visit, Visited, Fit, parts_to}

-- after the walk from root r: the lists of ups and downs are empty, and the pairs of the parts so far are added
pub record Ended (ends a b c : List ℕ) (p₀ : List Pair) (r : ℕ) (p : List Pair) (top : Tops) : Type 0 where
  pub ups : top.ups ≡ 0
  pub downs : top.downs ≡ 0
  pub pairs : Added p₀ 0 p top.pairs (parts_to r ends a b c)

-- a list whose amounts are no more than 0 is empty, since none is 0
no_halves : (l : Halves) → Filled l → Each (λ h. h.1 ≤ 0) l → l ≡ []
no_halves [] f h = refl
no_halves (x ∷ l) f h = absurd (omega (arith, f.0, h.0))

module _ {ends a b c : List ℕ} (w : Fit (suc (length a)) ends a b c) where
  pub number : length (links a b) ≡ length a
  number = length-links a b (omega (arith, w.tree.firsts, w.tree.seconds))

  module _ {p₀ : List Pair} {r : ℕ} {p : List Pair} {top : Tops} (E : Ended ends a b c p₀ r p top) where
    -- never more pairs than links
    pub few_so_far : r ≤ suc (length a) → top.pairs ≤ length a
    few_so_far h = omega (
      arith,
      E.pairs.below.ends,
      few_after_sites w.tree.tree (look ends) (look c) w.balanced r h,
      number,
    )

    module _ {root : ℕ} {u d : Halves} where
      -- the walk starts at a root with all sites below it, and with room for them
      pub root_visit : r ≤ suc (length a) → Site (suc (length a)) root → look ends root ≢ 1 → SITES ≤ length u → SITES ≤ length d → 2 * SITES ≤ length p
          → Visit (suc (length a)) ends a b c (suc (length a)) root (length a) 0 0 u d p top
      root_visit h site inner hu hd hp =
          let few = size-le (links a b) (suc (length a)) (length a) root in
          record {
            tree = w.tree;
            balanced = w.balanced;
            site = site;
            start = inr (sym number, inner, omega arith);
            fuelled = few;
            ups_room = omega (arith, few, w.tree.few, E.ups);
            downs_room = omega (arith, few, w.tree.few, E.downs);
            pairs_room = omega (arith, few, w.tree.few, few_so_far h);
          }

      -- and ends with its pairs behind those before
      pub root_ended : Visit (suc (length a)) ends a b c (suc (length a)) root (length a) 0 0 u d p top
          → parts_to root ends a b c ≡ parts_to r ends a b c ++ pairs_from (links a b) (suc (length a)) (look c) (look ends) root → {x y : Halves} {z : List Pair} {s : Tops}
          → Visited (walk_of (suc (length a)) ends a b c (suc (length a)) root (length a) 0 0) u d p top x y z s → Ended ends a b c p₀ root z s
      unfolding pairs_from
      root_ended W more q =
          let n = suc (length a) in
          let part = walk_of n ends a b c n root (length a) 0 0 in
          let short = walk_short w.tree.tree (look c) (look ends) w.balanced n root (length a) 0 0 W.site W.start W.fuelled in
          let filled = walk-filled (links a b) n (look c) (look ends) n root (length a) 0 0 in
          let none = no_halves part.ups filled.ups_all short.up_amounts in
          let none' = no_halves part.downs filled.downs_all short.down_amounts in
          let same : part.pairs ≡ pairs_from (links a b) n (look c) (look ends) root = ap (λ m. (walk_of n ends a b c n root m 0 0).pairs) (sym number) in
          record {
            ups = omega (arith, rw none at q.ups.ends, E.ups);
            downs = omega (arith, rw none' at q.downs.ends, E.downs);
            pairs = rw (more, ← same) (added_more E.pairs q.pairs);
          }
