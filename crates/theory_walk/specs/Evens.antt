-- Where every inner site's sum is even, so is every amount of the walk: even lists are split at even places, and matches of even lists are even.
use Rattle.std.specs.Prelude.{◌≡◌, refl, ◌≢◌, length}
use Rattle.std.proofs.Common.{◌∙◌, inl, inr, arith}
use mathlib.Core.List.{List, [], ◌∷◌}
use Prim.Native.Nat.{ℕ, zero, suc, ◌+◌, ◌-◌, ◌*◌, min}
use Rattle.std.proofs.Math.Decide.{dec_le}
use Rattle.lists.specs.Numbers.{Each}
use Rattle.model.specs.Flows.{Links, Site, Ends, at, sum_at}
use Rattle.model.specs.Pairing.{Halves, Part, put, take_halves, drop_halves, halves, give, match, children, gather, alone, settle, walk, pairs_from}
use Rattle.model.specs.declared.Pair.{Pair}
pub use Rattle.model.specs.Whole.{Even}
use Rattle.lists.specs.Sums.{cases, pick_cases, same?, sum-none, sum-eq}
use Rattle.theory_trees.specs.Trees.{at-end, at-le}
use Rattle.lists.specs.Tallies.{each_append}
use Rattle.theory_walk.specs.Handed.{All, all_nothing, all_join, sends}

even_add : (a b : ℕ) → Even a → Even b → Even (a + b)
even_add a b p q = (p.0 + q.0, omega (arith, p.1, q.1))

even_sub : (a b : ℕ) → Even a → Even b → Even (a - b)
even_sub a b p q = (p.0 - q.0, omega (arith, p.1, q.1))

even_min : (a b : ℕ) → Even a → Even b → Even (min a b)
even_min a b p q = (min p.0 q.0, omega (arith, p.1, q.1))

-- ---- lists

abbrev pub EvenHalf : ℕ × ℕ → Type 0
EvenHalf h = Even h.1

abbrev pub EvenPair : Pair → Type 0
EvenPair e = Even e.amount

put_even : (x a : ℕ) (l : Halves) → Even a → Each EvenHalf l → Each EvenHalf (put x a l)
unfolding put
put_even x zero l p q = q
put_even x (suc a) l p q = (p, q)

take_even : (k : ℕ) (l : Halves) → Even k → Each EvenHalf l → Each EvenHalf (take_halves k l)
unfolding take_halves
take_even k [] p q = tt
take_even k (h ∷ l) p q = put_even h.0 (min k h.1) (take_halves (k - h.1) l) (even_min k h.1 p q.0)
    (take_even (k - h.1) l (even_sub k h.1 p q.0) q.1)

drop_even : (k : ℕ) (l : Halves) → Even k → Each EvenHalf l → Each EvenHalf (drop_halves k l)
unfolding drop_halves
drop_even k [] p q = tt
drop_even k (h ∷ l) p q = put_even h.0 (h.1 - k) (drop_halves (k - h.1) l) (even_sub h.1 k q.0 p)
    (drop_even (k - h.1) l (even_sub k h.1 p q.0) q.1)

halves_even : (l : Halves) → Each EvenHalf l → Even (halves l)
unfolding halves
halves_even [] p = (0, omega arith)
halves_even (h ∷ l) p = even_add h.1 (halves l) p.0 (halves_even l p.1)

give_even : (x : ℕ) (l : Halves) → Each EvenHalf l → Each EvenPair (give x l)
unfolding give
give_even x [] p = tt
give_even x (h ∷ l) p = (p.0, give_even x l p.1)

match_even : (u d : Halves) → Each EvenHalf u → Each EvenHalf d → Each EvenPair (match u d)
unfolding match
match_even [] d p q = tt
match_even (h ∷ u) d p q = each_append EvenPair (give h.0 (take_halves h.1 d)) (match u (drop_halves h.1 d))
    (give_even h.0 (take_halves h.1 d) (take_even h.1 d p.0 q))
    (match_even u (drop_halves h.1 d) p.1 (drop_even h.1 d p.0 q))

-- ---- the walk

gather_even : (visit : ℕ → ℕ → ℕ → ℕ → Part) (t : ℕ → ℕ) → ((c k s d : ℕ) → Even s → Even d → All EvenHalf EvenPair (visit c k s d))
    → (r : ℕ) (ks : List (ℕ × ℕ)) → Even r → All EvenHalf EvenPair (gather visit t r ks)
unfolding gather
gather_even visit t h r [] p = all_nothing EvenHalf EvenPair
gather_even visit t h r (e ∷ ks) p =
    let s = sends t e r in
    let a : Even (2 * t e.1) = (t e.1, refl) in
    let q : Even s = even_min (2 * t e.1) r a p in
    all_join EvenHalf EvenPair (visit e.0 e.1 s (2 * t e.1 - s)) (gather visit t (r - s) ks)
    (h e.0 e.1 s (2 * t e.1 - s) q (even_sub (2 * t e.1) s a q))
    (gather_even visit t h (r - s) ks (even_sub r s p q))

settle_even : (up down : ℕ) (g : Part) → Even up → Even down → All EvenHalf EvenPair g → All EvenHalf EvenPair (settle up down g)
unfolding settle
settle_even up down g p q h =
    let own = halves g.ups - up in
    let o : Even own = even_sub (halves g.ups) up (halves_even g.ups h.ups_all) p in
    record {
      ups_all = drop_even own g.ups o h.ups_all;
      downs_all = take_even down g.downs q h.downs_all;
      pairs-all = each_append EvenPair g.pairs (match (take_halves own g.ups) (drop_halves down g.downs)) h.pairs-all
          (match_even (take_halves own g.ups) (drop_halves down g.downs) (take_even own g.ups o h.ups_all)
          (drop_even down g.downs q h.downs_all));
    }

module _ (ls : Links) (n : ℕ) (t terminal : ℕ → ℕ) (sums : (v : ℕ) → terminal v ≢ 1 → Even (sum_at ls v t)) where
  walk_even : (fuel v j up down : ℕ) → Even up → Even down → All EvenHalf EvenPair (walk ls n t terminal fuel v j up down)
  unfolding walk alone
  walk_even zero v j up down p q = all_nothing EvenHalf EvenPair
  walk_even (suc fuel) v j up down p q =
      let visit = walk ls n t terminal fuel in
      let g = gather (λ c k s d. visit c k s d) t (sum_at ls v t - down) (children ls v j 1 n) in
      pick_cases (All EvenHalf EvenPair) (terminal v) 1 (alone v up down) (settle up down g)
      (λ e. record { ups_all = put_even v up [] p tt; downs_all = put_even v down [] q tt; pairs-all = tt })
      (λ d. settle_even up down g p q (gather_even (λ c k s d. visit c k s d) t (λ c k s d. walk_even fuel c k s d)
      (sum_at ls v t - down) (children ls v j 1 n) (even_sub (sum_at ls v t) down (sums v d) q)))

  pub root_even : (root : ℕ) → Each EvenPair (pairs_from ls n t terminal root)
  unfolding pairs_from
  root_even root = (walk_even n root (length ls) 0 0 (0, omega arith) (0, omega arith)).pairs-all

-- where there is no site there is no link
sum_nowhere : (ls : Links) (n v : ℕ) (t : ℕ → ℕ) → Ends ls n → ¬ Site n v → sum_at ls v t ≡ 0
unfolding sum_at
sum_nowhere ls n v t h d = sum-eq (length ls) (λ i. at ls v i * t i) (λ i. 0) (λ i l. same? (at ls v i) 1
    (λ a. absurd (d (elim (at-end ls i a) [ inl e ↦ rw e at (h i l).0 | inr e ↦ rw e at (h i l).1 ])))
    (λ a. let z : at ls v i ≡ 0 = omega (arith, at-le ls v i) in rw z (omega arith)))
    ∙ sum-none (length ls)

-- the same from the sums at the inner sites alone
pub even_everywhere : (ls : Links) (n : ℕ) (t terminal : ℕ → ℕ) → Ends ls n → ((v : ℕ) → Site n v → terminal v ≢ 1 → Even (sum_at ls v t))
    → (v : ℕ) → terminal v ≢ 1 → Even (sum_at ls v t)
even_everywhere ls n t terminal h s v d = cases (dec_le 1 v)
    (λ p. cases (dec_le v n) (λ q. s v (p, q) d) (λ q. (0, sum_nowhere ls n v t h (λ o. q o.1))))
    (λ p. (0, sum_nowhere ls n v t h (λ o. p o.0)))
