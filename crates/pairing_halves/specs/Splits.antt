-- Lists of halves split and matched entry by entry: what the loops over them go by.
use Rattle.std.specs.Prelude.{◌≡◌, refl, [], ◌∷◌, ◌++◌}
use Rattle.std.proofs.Common.{◌∙◌}
use Prim.Native.Nat.{ℕ, zero, suc, ◌+◌, ◌-◌, ◌≤◌, min}
use native.Mathlib.Omega.{arith}
use Rattle.model.specs.Pairing.{Halves, put, take_halves, drop_halves, halves, give, match}
use Rattle.theory_walk.specs.Halves.{Filled, halves-drop, drop_thins, thinned_filled}
use Rattle.theory_walk.proofs.Steps.{take_none, drop-none}

pub put_some : (x a : ℕ) (l : Halves) → 1 ≤ a → put x a l ≡ (x, a) ∷ l
unfolding put
put_some x zero l h = absurd (omega arith)
put_some x (suc a) l h = refl

-- ---- k halves against the first entry

module _ (k : ℕ) (h : ℕ × ℕ) (l : Halves) where
  -- the entry is among the first k
  pub take_whole : 1 ≤ h.1 → h.1 ≤ k → take_halves k (h ∷ l) ≡ h ∷ take_halves (k - h.1) l
  unfolding take_halves
  take_whole p q = let e : min k h.1 ≡ h.1 = omega arith in rw e (put_some h.0 h.1 (take_halves (k - h.1) l) p)

  pub drop-whole : h.1 ≤ k → drop_halves k (h ∷ l) ≡ drop_halves (k - h.1) l
  unfolding drop_halves put
  drop-whole q = let e : h.1 - k ≡ 0 = omega arith in rw e

  -- it is cut
  pub take-cut : k ≤ h.1 → take_halves k (h ∷ l) ≡ put h.0 k []
  unfolding take_halves
  take-cut q = let e : min k h.1 ≡ k = omega arith in let d : k - h.1 ≡ 0 = omega arith in rw (e, d, take_none l)

  pub drop-cut : Filled l → k ≤ h.1 → drop_halves k (h ∷ l) ≡ put h.0 (h.1 - k) l
  unfolding drop_halves
  drop-cut f q = let d : k - h.1 ≡ 0 = omega arith in rw (d, drop-none l f)

-- ---- the match

-- past the end of a list there is nothing to take or drop
take_within : (k : ℕ) (l : Halves) → take_halves (min k (halves l)) l ≡ take_halves k l
unfolding take_halves halves
take_within k [] = refl
take_within k (h ∷ l) =
    let here : min (min k (h.1 + halves l)) h.1 ≡ min k h.1 = omega arith in
    let more : min k (h.1 + halves l) - h.1 ≡ min (k - h.1) (halves l) = omega arith in
    rw (here, more, take_within (k - h.1) l)

drop-within : (k : ℕ) (l : Halves) → drop_halves (min k (halves l)) l ≡ drop_halves k l
unfolding drop_halves halves
drop-within k [] = refl
drop-within k (h ∷ l) =
    let here : h.1 - min k (h.1 + halves l) ≡ h.1 - k = omega arith in
    let more : min k (h.1 + halves l) - h.1 ≡ min (k - h.1) (halves l) = omega arith in
    rw (here, more, drop-within (k - h.1) l)

-- an entry, of any amount, at the front of the first list
match-put : (x a : ℕ) (u d : Halves) → Filled d → match (put x a u) d ≡ give x (take_halves a d) ++ match u (drop_halves a d)
unfolding put match
match-put x zero u d f = rw (take_none d, drop-none d f) (unfold give in refl)
match-put x (suc a) u d f = refl

-- a match looks at no more of the first list than the second has halves for
pub match-enough : (u d : Halves) → Filled d → match (take_halves (halves d) u) d ≡ match u d
unfolding match take_halves
match-enough [] d f = refl
match-enough (h ∷ u) d f =
    let turn : min (halves d) h.1 ≡ min h.1 (halves d) = omega arith in
    match-put h.0 (min (halves d) h.1) (take_halves (halves d - h.1) u) d f
    ∙ rw (
      turn,
      take_within h.1 d,
      drop-within h.1 d,
      ← (halves-drop h.1 d),
      match-enough u (drop_halves h.1 d) (thinned_filled (drop_thins h.1 d)),
    )
