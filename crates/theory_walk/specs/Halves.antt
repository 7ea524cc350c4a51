-- Lists of halves, put together and split: what they hold at which sites, in what order, and in how many entries.
use Rattle.std.specs.Prelude.{◌≡◌, length}
use Rattle.std.proofs.Math.Path.{refl, ap}
use mathlib.Core.List.{[], ◌∷◌, ◌++◌}
use Prim.Native.Nat.{ℕ, zero, suc, ◌+◌, ◌-◌, ◌*◌, ◌≤◌, min}
use native.Mathlib.Omega.{arith}
use Rattle.std.proofs.Math.Nat.{mul-le-mul_right}
use Rattle.lists.specs.Numbers.{Each}
use Rattle.model.specs.Pairing.{Halves, put, take_halves, drop_halves, halves}
use Rattle.lists.specs.Tallies.{tally, tally-append}

-- the amounts of a list, each times f of its site; where f is 0 or 1, the halves at the sites of f
abbrev pub halves_at : (ℕ → ℕ) → Halves → ℕ
halves_at f l = tally (λ h. h.1 * f h.0) l

module _ (f : ℕ → ℕ) where
  pub at-put : (x a : ℕ) (l : Halves) → halves_at f (put x a l) ≡ a * f x + halves_at f l
  unfolding tally put
  at-put x zero l = omega arith
  at-put x (suc a) l = refl

  pub at_split : (k : ℕ) (l : Halves) → halves_at f (take_halves k l) + halves_at f (drop_halves k l) ≡ halves_at f l
  unfolding tally take_halves drop_halves
  at_split k [] = refl
  at_split k (h ∷ l) =
      let e : min k h.1 + (h.1 - k) ≡ h.1 = omega arith in
      omega (
        arith,
        at-put h.0 (min k h.1) (take_halves (k - h.1) l),
        at-put h.0 (h.1 - k) (drop_halves (k - h.1) l),
        at_split (k - h.1) l,
        ap (λ a. a * f h.0) e,
      )

  -- a list without halves has none at any site
  pub at_none : (l : Halves) → halves l ≡ 0 → halves_at f l ≡ 0
  unfolding tally halves
  at_none [] e = refl
  at_none (h ∷ l) e = let z : h.1 ≡ 0 = omega arith in rw z (omega (arith, at_none l (omega arith)))

  -- the longer the front, the fewer halves are left
  drop-less : (b c : ℕ) (l : Halves) → c ≤ b → halves_at f (drop_halves b l) ≤ halves_at f (drop_halves c l)
  unfolding tally drop_halves
  drop-less b c [] p = omega arith
  drop-less b c (h ∷ l) p = omega (
    arith,
    at-put h.0 (h.1 - b) (drop_halves (b - h.1) l),
    at-put h.0 (h.1 - c) (drop_halves (c - h.1) l),
    drop-less (b - h.1) (c - h.1) l (omega arith),
    mul-le-mul_right (f h.0) (let q : h.1 - b ≤ h.1 - c = omega arith in q),
  )

  take_more : (b c : ℕ) (l : Halves) → b ≤ c → halves_at f (take_halves b l) ≤ halves_at f (take_halves c l)
  take_more b c l p = omega (arith, at_split b l, at_split c l, drop-less c b l p)

-- ---- how many halves there are

halves-at : (l : Halves) → halves l ≡ halves_at (λ x. 1) l
unfolding tally halves
halves-at [] = refl
halves-at (h ∷ l) = omega (arith, halves-at l)

-- all of them at the sites of f
pub at_all : (f : ℕ → ℕ) (l : Halves) → Each (λ h. f h.0 ≡ 1) l → halves_at f l ≡ halves l
unfolding tally halves
at_all f [] p = refl
at_all f (h ∷ l) p = rw p.0 (omega (arith, at_all f l p.1))

pub halves-put : (x a : ℕ) (l : Halves) → halves (put x a l) ≡ a + halves l
unfolding put halves
halves-put x zero l = omega arith
halves-put x (suc a) l = refl

pub halves-append : (l m : Halves) → halves (l ++ m) ≡ halves l + halves m
unfolding halves
halves-append [] m = omega arith
halves-append (h ∷ l) m = omega (arith, halves-append l m)

pub halves-take : (k : ℕ) (l : Halves) → halves (take_halves k l) ≡ min k (halves l)
unfolding take_halves halves
halves-take k [] = omega arith
halves-take k (h ∷ l) = omega (arith, halves-put h.0 (min k h.1) (take_halves (k - h.1) l), halves-take (k - h.1) l)

pub halves-drop : (k : ℕ) (l : Halves) → halves (drop_halves k l) ≡ halves l - k
halves-drop k l = omega (
  arith,
  halves-take k l,
  at_split (λ x. 1) k l,
  halves-at l,
  halves-at (take_halves k l),
  halves-at (drop_halves k l),
)

-- ---- splitting twice, and splitting what is joined

put-append : (x a : ℕ) (l m : Halves) → put x a l ++ m ≡ put x a (l ++ m)
unfolding put
put-append x zero l m = refl
put-append x (suc a) l m = refl

pub take_put : (k x a : ℕ) (l : Halves) → take_halves k (put x a l) ≡ put x (min k a) (take_halves (k - a) l)
unfolding put take_halves
take_put k x zero l = let e : min k 0 ≡ 0 = omega arith in let d : k - 0 ≡ k = omega arith in rw (e, d) refl
take_put k x (suc a) l = refl

drop-put : (k x a : ℕ) (l : Halves) → drop_halves k (put x a l) ≡ put x (a - k) (drop_halves (k - a) l)
unfolding put drop_halves
drop-put k x zero l = let e : 0 - k ≡ 0 = omega arith in let d : k - 0 ≡ k = omega arith in rw (e, d) refl
drop-put k x (suc a) l = refl

min-sub : (a b h : ℕ) → min (a - min b h) (b - h) ≡ min a b - h
min-sub a b h = omega arith

take-take : (a b : ℕ) (l : Halves) → take_halves a (take_halves b l) ≡ take_halves (min a b) l
unfolding take_halves
take-take a b [] = refl
take-take a b (h ∷ l) =
    let p : min a (min b h.1) ≡ min (min a b) h.1 = omega arith in
    rw (take_put a h.0 (min b h.1) (take_halves (b - h.1) l), take-take (a - min b h.1) (b - h.1) l, p, min-sub a b h.1)

pub drop-drop : (a b : ℕ) (l : Halves) → drop_halves a (drop_halves b l) ≡ drop_halves (a + b) l
unfolding drop_halves
drop-drop a b [] = refl
drop-drop a b (h ∷ l) =
    let p : h.1 - b - a ≡ h.1 - (a + b) = omega arith in
    let q : (a - (h.1 - b)) + (b - h.1) ≡ a + b - h.1 = omega arith in
    rw (drop-put a h.0 (h.1 - b) (drop_halves (b - h.1) l), drop-drop (a - (h.1 - b)) (b - h.1) l, p, q)

take-append : (k : ℕ) (l m : Halves) → take_halves k (l ++ m) ≡ take_halves k l ++ take_halves (k - halves l) m
unfolding take_halves halves
take-append k [] m = let e : k - 0 ≡ k = omega arith in rw e
take-append k (h ∷ l) m =
    let e : k - h.1 - halves l ≡ k - (h.1 + halves l) = omega arith in
    rw (take-append (k - h.1) l m, e, put-append h.0 (min k h.1) (take_halves (k - h.1) l))

drop-append : (k : ℕ) (l m : Halves) → drop_halves k (l ++ m) ≡ drop_halves k l ++ drop_halves (k - halves l) m
unfolding drop_halves halves
drop-append k [] m = let e : k - 0 ≡ k = omega arith in rw e
drop-append k (h ∷ l) m =
    let e : k - h.1 - halves l ≡ k - (h.1 + halves l) = omega arith in
    rw (drop-append (k - h.1) l m, e, put-append h.0 (h.1 - k) (drop_halves (k - h.1) l))

-- ---- where the halves at the sites of f stand

module _ (f : ℕ → ℕ) where
  -- none before place a: the same in a list's front, and after a list that has none
  pub take-front : (a k : ℕ) (l : Halves) → halves_at f (take_halves a l) ≡ 0 → halves_at f (take_halves a (take_halves k l)) ≡ 0
  take-front a k l e = rw (take-take a k l) (omega (arith, take_more f (min a k) a l (omega arith)))

  pub take_past : (l m : Halves) (a : ℕ) → halves_at f l ≡ 0 → halves_at f (take_halves a m) ≡ 0 → halves_at f (take_halves (a + halves l) (l ++ m)) ≡ 0
  take_past l m a p q =
      let e : a + halves l - halves l ≡ a = omega arith in
      let k = a + halves l in
      rw (take-append k l m, tally-append (λ h. h.1 * f h.0) (take_halves k l), e) (omega (arith, at_split f k l))

  -- none from place b on: nor from a later place, nor after a list without halves, nor where they are all in a list that ends before b
  pub drop-later : (b c : ℕ) (l : Halves) → c ≤ b → halves_at f (drop_halves c l) ≡ 0 → halves_at f (drop_halves b l) ≡ 0
  drop-later b c l p e = omega (arith, drop-less f b c l p)

  drop-joined : (l m : Halves) (b : ℕ) → halves_at f (drop_halves b (l ++ m)) ≡ halves_at f (drop_halves b l) + halves_at f (drop_halves (b - halves l) m)
  drop-joined l m b = rw (drop-append b l m) (tally-append (λ h. h.1 * f h.0) (drop_halves b l) (drop_halves (b - halves l) m))

  pub drop_past : (l m : Halves) (b : ℕ) → halves l ≡ 0 → halves_at f (drop_halves b m) ≡ 0 → halves_at f (drop_halves b (l ++ m)) ≡ 0
  drop_past l m b z q =
      let e : b - halves l ≡ b = omega arith in
      omega (arith, rw e at (drop-joined l m b), at_split f b l, at_none f l z)

  pub drop-first : (l m : Halves) (b : ℕ) → halves l ≤ b → halves_at f m ≡ 0 → halves_at f (drop_halves b (l ++ m)) ≡ 0
  drop-first l m b z q = omega (
    arith,
    drop-joined l m b,
    at_none f (drop_halves b l) (omega (arith, halves-drop b l)),
    at_split f (b - halves l) m,
  )

-- ---- entries

pub length-put : (x a : ℕ) (l : Halves) → length (put x a l) ≡ min 1 a + length l
unfolding put
length-put x zero l = omega arith
length-put x (suc a) l = omega arith

-- each entry that a split makes holds a half
pub take_few : (k : ℕ) (l : Halves) → length (take_halves k l) ≤ k
unfolding take_halves
take_few k [] = omega arith
take_few k (h ∷ l) = omega (arith, length-put h.0 (min k h.1) (take_halves (k - h.1) l), take_few (k - h.1) l)

pub drop_few : (k : ℕ) (l : Halves) → length (drop_halves k l) ≤ halves l - k
unfolding drop_halves halves
drop_few k [] = omega arith
drop_few k (h ∷ l) = omega (arith, length-put h.0 (h.1 - k) (drop_halves (k - h.1) l), drop_few (k - h.1) l)

-- m has the sites of l in their order, some perhaps left out
pub data Thinned : Halves → Halves → Type 0 where
  none : Thinned [] []
  some : (x a b : ℕ) {l m : Halves} → Thinned l m → Thinned ((x, a) ∷ l) (put x b m)

pub take_thins : (k : ℕ) (l : Halves) → Thinned l (take_halves k l)
unfolding take_halves
take_thins k [] = none
take_thins k (h ∷ l) = some h.0 h.1 (min k h.1) (take_thins (k - h.1) l)

pub drop_thins : (k : ℕ) (l : Halves) → Thinned l (drop_halves k l)
unfolding drop_halves
drop_thins k [] = none
drop_thins k (h ∷ l) = some h.0 h.1 (h.1 - k) (drop_thins (k - h.1) l)

pub thinned_short : {l m : Halves} → Thinned l m → length m ≤ length l
thinned_short none = omega arith
thinned_short (some x a b {m = m} s) = omega (arith, length-put x b m, thinned_short s)

pub thinned_each : (P : ℕ → Type 0) {l m : Halves} → Thinned l m → Each (λ h. P h.0) l → Each (λ h. P h.0) m
unfolding put
thinned_each P none p = tt
thinned_each P (some x a zero s) p = thinned_each P s p.1
thinned_each P (some x a (suc b) s) p = (p.0, thinned_each P s p.1)

pub thinned_tally : (f : ℕ → ℕ) {l m : Halves} → Thinned l m → tally (λ h. f h.0) m ≤ tally (λ h. f h.0) l
unfolding tally put
thinned_tally f none = omega arith
thinned_tally f (some x a zero s) = omega (arith, thinned_tally f s)
thinned_tally f (some x a (suc b) s) = omega (arith, thinned_tally f s)

-- no amount is 0
abbrev pub Filled : Halves → Type 0
Filled l = Each (λ h. 1 ≤ h.1) l

pub put-filled : (x a : ℕ) (l : Halves) → Filled l → Filled (put x a l)
unfolding put
put-filled x zero l p = p
put-filled x (suc a) l p = (omega arith, p)

pub thinned_filled : {l m : Halves} → Thinned l m → Filled m
thinned_filled none = tt
thinned_filled (some x a b {m = m} s) = put-filled x b m (thinned_filled s)

-- a split adds at most one entry
pub split-length : (k : ℕ) (l : Halves) → length (take_halves k l) + length (drop_halves k l) ≤ suc (length l)
unfolding take_halves drop_halves
split-length k [] = omega arith
split-length k (h ∷ l) = omega (
  arith,
  length-put h.0 (min k h.1) (take_halves (k - h.1) l),
  length-put h.0 (h.1 - k) (drop_halves (k - h.1) l),
  take_few (k - h.1) l,
  thinned_short (drop_thins (k - h.1) l),
  split-length (k - h.1) l,
)
