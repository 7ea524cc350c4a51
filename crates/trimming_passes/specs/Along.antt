-- Balanced along an order, the capacities of a tree are the balanced ones: the order from outside inward does not matter.
use Rattle.std.specs.Prelude.{◌≡◌, List, [], ◌∷◌, ◌++◌, ℕ, zero, suc, ◌≤◌, ◌<◌}
use Rattle.std.proofs.Math.Path.{refl}
use native.Mathlib.Omega.{arith}
use Rattle.std.proofs.Math.Seq.{take_at, drop_at}
use Rattle.std.proofs.Math.ListN.{length}
use Rattle.model.specs.Edition.{largest}
use Rattle.lists.specs.Numbers.{count, look}
use Rattle.model.specs.Trimming.{elimination, InwardOrder, balanced}
use Rattle.lists.specs.Sums.{is_same}
use Rattle.theory_trees.specs.Sites.{sites-site}
use Rattle.theory_trees.proofs.Orders.{elimination_takes_only_sites, elimination_is_inward}
use Rattle.theory_trees.specs.TreeTest.{length-elimination}
use Rattle.theory_trees.proofs.Greatest.{any_order_balances_alike}
use Rattle.tree.specs.Offer.{links}
use Rattle.tree.specs.Accepted.{TreeWithin}
use Rattle.trimming_passes.specs.Steps.{InPlaces, balanced_first}

count-look : (l : List ℕ) (i : ℕ) → i < length l → 1 ≤ count l (look l i)
unfolding count
count-look [] i h = absurd (omega arith)
count-look (x ∷ l) zero h = omega (arith, is_same {u = x} refl)
count-look (x ∷ l) (suc i) h = omega (arith, count-look l i (omega arith))

module _ {n : ℕ} {a b c : List ℕ} (w : TreeWithin largest n a b c) where
  -- the elimination order takes each site, and sites only
  pub elimination_in_places : InPlaces n (elimination (links a b) n)
  elimination_in_places =
      let order = elimination (links a b) n in
      record {
        each = length-elimination (links a b) n;
        low = λ i h. omega (
          arith,
          sites-site n (look order i) (omega (
            arith,
            elimination_takes_only_sites w.tree (look order i),
            count-look order i (omega (arith, length-elimination (links a b) n)),
          )),
        );
      }

  -- the given capacities at the front of a list are balanced in place
  pub balanced_in_place : (terminal : ℕ → ℕ) (order : List ℕ) → InwardOrder (links a b) n order → (rest : List ℕ)
      → balanced_first a b terminal order (c ++ rest) ≡ balanced (links a b) n terminal c ++ rest
  unfolding balanced_first balanced
  balanced_in_place terminal order o rest =
      let same : length c ≡ length a = omega arith in
      rw (
        take_at c rest (length a) same,
        drop_at c rest (length a) same,
        any_order_balances_alike w.tree terminal order (elimination (links a b) n) o (elimination_is_inward w.tree) c,
      ) refl
