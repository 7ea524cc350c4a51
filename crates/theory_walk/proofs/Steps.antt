-- The definitions step by step, as loops over arrays take them. (The steps of the list of children are in `Children`.)
use Rattle.std.specs.Prelude.{◌≡◌, ◌≢◌, List, [], ◌∷◌, ◌++◌}
use Rattle.std.proofs.Math.Path.{refl}
use Rattle.std.proofs.Common.{sym, ap, ◌∙◌, append_assoc}
use Prim.Native.Nat.{ℕ, zero, suc, ◌-◌, ◌*◌, ◌≤◌, min}
use native.Mathlib.Omega.{arith}
use Rattle.std.proofs.Math.Decide.{dec_le}
use Rattle.model.specs.Flows.{Links, sum_at}
use Rattle.model.specs.Pairing.{Halves, put, take_halves, drop_halves, give, match, Part, join, children, gather, alone, settle, walk}
use Rattle.model.specs.declared.Pair.{Pair}
use Rattle.lists.specs.Sums.{pick_same, pick_other, cases}
use Rattle.theory_walk.specs.Halves.{Filled, take_put}

-- ---- a site

module _ (ls : Links) (n : ℕ) (t terminal : ℕ → ℕ) (fuel v j up down : ℕ) where
  pub walk-terminal : terminal v ≡ 1 → walk ls n t terminal (suc fuel) v j up down ≡ alone v up down
  unfolding walk
  walk-terminal e = pick_same e (alone v up down)
      (settle up down (gather (λ c k s d. walk ls n t terminal fuel c k s d) t (sum_at ls v t - down) (children ls v j 1 n)))

  pub walk_inner : terminal v ≢ 1 → walk ls n t terminal (suc fuel) v j up down
      ≡ settle up down (gather (λ c k s d. walk ls n t terminal fuel c k s d) t (sum_at ls v t - down) (children ls v j 1 n))
  unfolding walk
  walk_inner d = pick_other d (alone v up down)
      (settle up down (gather (λ c k s d. walk ls n t terminal fuel c k s d) t (sum_at ls v t - down) (children ls v j 1 n)))

-- ---- gathering

join_assoc : (a b c : Part) → join (join a b) c ≡ join a (join b c)
join_assoc a b c i = record {
  ups = append_assoc a.ups b.ups c.ups i;
  downs = append_assoc a.downs b.downs c.downs i;
  pairs = append_assoc a.pairs b.pairs c.pairs i;
}

-- what is pushed so far, joined with what the children still to come hand back, stays the same
pub gather-push : (visit : ℕ → ℕ → ℕ → ℕ → Part) (t : ℕ → ℕ) (acc : Part) (r c k : ℕ) (ks : List (ℕ × ℕ))
    → join acc (gather visit t r ((c, k) ∷ ks)) ≡ join (join acc (visit c k (min (2 * t k) r) (2 * t k - min (2 * t k) r)))
    (gather visit t (r - min (2 * t k) r) ks)
unfolding gather
gather-push visit t acc r c k ks = let s = min (2 * t k) r in sym (join_assoc acc (visit c k s (2 * t k - s)) (gather visit t (r - s) ks))

-- ---- splitting at 0

pub take_none : (l : Halves) → take_halves 0 l ≡ []
unfolding take_halves put
take_none [] = refl
take_none (h ∷ l) = let e : min 0 h.1 ≡ 0 = omega arith in let d : 0 - h.1 ≡ 0 = omega arith in rw (e, d) (take_none l)

pub drop-none : (l : Halves) → Filled l → drop_halves 0 l ≡ l
unfolding drop_halves put
drop-none [] p = refl
drop-none (h ∷ l) p = let d : 0 - h.1 ≡ 0 = omega arith in rw (d, drop-none l p.1) (whole h.0 h.1 p.0)
  where
    whole : (x a : ℕ) → 1 ≤ a → put x (a - 0) l ≡ (x, a) ∷ l
    whole x zero q = absurd (omega arith)
    whole x (suc a) q = let e : suc a - 0 ≡ suc a = omega arith in rw e

-- ---- matching

-- the match ends where a list does
pub match_none : (u : Halves) → match u [] ≡ []
unfolding match take_halves drop_halves give
match_none [] = refl
match_none (h ∷ u) = match_none u

-- else the lesser of the two front amounts makes a pair, and is taken from both
pub match_step : (x a y b : ℕ) (u d : Halves) → 1 ≤ a → 1 ≤ b → Filled d
    → match ((x, a) ∷ u) ((y, b) ∷ d) ≡ record { first = x; second = y; amount = min a b } ∷ match (put x (a - b) u) (put y (b - a) d)
unfolding match take_halves drop_halves give
match_step x a y b u d p q r = front (min a b) refl ∙ ap (λ es. record { first = x; second = y; amount = min a b } ∷ es) rest
  where
    tail : List Pair
    tail = give x (take_halves (a - b) d) ++ match u (put y (b - a) (drop_halves (a - b) d))

    front : (m : ℕ) → min a b ≡ m
        → give x (put y (min a b) (take_halves (a - b) d)) ++ match u
        (put y (b - a) (drop_halves (a - b) d)) ≡ record { first = x; second = y; amount = min a b } ∷ tail
    front zero e = absurd (omega arith)
    front (suc m) e = rw e (unfold put give in refl)

    rest : tail ≡ match (put x (a - b) u) (put y (b - a) d)
    rest = cases (dec_le a b)
        (λ l. let e : a - b ≡ 0 = omega arith in rw (e, take_none d, drop-none d r) (unfold put give in refl))
        (λ l. let e : b - a ≡ 0 = omega arith in rw e (longer (a - b) (omega arith)))
      where
        longer : (m : ℕ) → 1 ≤ m → give x (take_halves m d) ++ match u (put y 0 (drop_halves m d)) ≡ match (put x m u) (put y 0 d)
        longer zero z = absurd (omega arith)
        longer (suc m) z = unfold put match in refl

-- the same where only the first k halves of the first list are matched
pub match-front : (k x a y b : ℕ) (u d : Halves) → 1 ≤ k → 1 ≤ a → 1 ≤ b → Filled d
    → match (take_halves k ((x, a) ∷ u)) ((y, b) ∷ d) ≡ record { first = x; second = y; amount = min (min k a) b }
    ∷ match (take_halves (k - min (min k a) b) (put x (a - min (min k a) b) u)) (put y (b - min (min k a) b) d)
unfolding take_halves
match-front k x a y b u d o p q r =
    let m = min (min k a) b in
    ap (λ l. match l ((y, b) ∷ d)) (split (min k a) (omega arith))
    ∙ match_step x (min k a) y b (take_halves (k - a) u) d (omega arith) q r
    ∙ ap (λ es. record { first = x; second = y; amount = m } ∷ es) (rw (left, right))
  where
    split : (c : ℕ) → 1 ≤ c → put x c (take_halves (k - a) u) ≡ (x, c) ∷ take_halves (k - a) u
    split zero z = absurd (omega arith)
    split (suc c) z = unfold put in refl

    left : put x (min k a - b) (take_halves (k - a) u) ≡ take_halves (k - min (min k a) b) (put x (a - min (min k a) b) u)
    left = sym (take_put (k - min (min k a) b) x (a - min (min k a) b) u ∙ rw (less k a b, rest k a b))
      where
        less : (k a b : ℕ) → min (k - min (min k a) b) (a - min (min k a) b) ≡ min k a - b
        less k a b = omega arith

        rest : (k a b : ℕ) → k - min (min k a) b - (a - min (min k a) b) ≡ k - a
        rest k a b = omega arith

    right : b - min k a ≡ b - min (min k a) b
    right = omega arith
