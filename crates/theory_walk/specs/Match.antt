-- The pairs of a match: what they carry from which sites to which, how many they are, and how often one arises.
-- The one tool: places in the two lists tell which sites never meet (`match-apart`).
use Rattle.std.specs.Prelude.{◌≡◌, ℕ, suc, ◌+◌, ◌-◌, ◌*◌, ◌≤◌, min, length}
use Rattle.std.proofs.Math.Path.{refl}
use Rattle.std.proofs.Common.{sym, ap, ◌∙◌, length-append, mul-le-mul_left}
use mathlib.Core.List.{List, [], ◌∷◌}
use native.Mathlib.Omega.{arith}
use Rattle.std.proofs.Math.Nat.{mul-le-mul_right}
use Rattle.lists.specs.Numbers.{Each}
use Rattle.model.specs.Pairing.{Halves, take_halves, drop_halves, halves, give, match}
use Rattle.model.specs.declared.Pair.{Pair}
use Rattle.lists.specs.Sums.{same?}
use Rattle.lists.specs.Tallies.{tally, tally-append, each_append}
use Rattle.theory_walk.specs.Halves.{halves_at, at-put, at_split, at_none, halves-take, halves-drop, drop-drop, drop-later, Filled, take_thins}
use Rattle.theory_walk.specs.Halves.{drop_thins}
use Rattle.theory_walk.specs.Halves.{thinned_short, thinned_each, thinned_tally, thinned_filled, split-length}

-- the amounts of pairs, each times w of its two sites
abbrev pub flow : (ℕ → ℕ → ℕ) → List Pair → ℕ
flow w es = tally (λ e. e.amount * w e.first e.second) es

-- the pairs themselves, counted by w of their sites
abbrev pub times : (ℕ → ℕ → ℕ) → List Pair → ℕ
times w es = tally (λ e. w e.first e.second) es

flow-give : (w : ℕ → ℕ → ℕ) (x : ℕ) (l : Halves) → flow w (give x l) ≡ halves_at (w x) l
unfolding tally give
flow-give w x [] = refl
flow-give w x (h ∷ l) = omega (arith, flow-give w x l)

-- the pairs of an entry and the front of a list, and those of the rest
flow-cons : (w : ℕ → ℕ → ℕ) (h : ℕ × ℕ) (u d : Halves)
    → flow w (match (h ∷ u) d) ≡ halves_at (w h.0) (take_halves h.1 d) + flow w (match u (drop_halves h.1 d))
unfolding match
flow-cons w h u d = tally-append (λ e. e.amount * w e.first e.second) (give h.0 (take_halves h.1 d)) (match u (drop_halves h.1 d))
    ∙ rw (flow-give w h.0 (take_halves h.1 d))

at_const : (k : ℕ) (l : Halves) → halves_at (λ x. k) l ≡ k * halves l
unfolding tally halves
at_const k [] = omega arith
at_const k (h ∷ l) = omega (arith, at_const k l)

at_mul : (k : ℕ) (f : ℕ → ℕ) (l : Halves) → halves_at (λ x. k * f x) l ≡ k * halves_at f l
unfolding tally
at_mul k f [] = omega arith
at_mul k f (h ∷ l) = omega (arith, at_mul k f l)

-- the first sites of the pairs carry what the first list does
pub match_firsts : (f : ℕ → ℕ) (u d : Halves) → halves u ≤ halves d → flow (λ x y. f x) (match u d) ≡ halves_at f u
unfolding tally halves
match_firsts f [] d p = unfold match in refl
match_firsts f (h ∷ u) d p =
    let e : min h.1 (halves d) ≡ h.1 = omega arith in
    omega (
      arith,
      flow-cons (λ x y. f x) h u d,
      at_const (f h.0) (take_halves h.1 d),
      ap (λ m. f h.0 * m) (halves-take h.1 d ∙ e),
      match_firsts f u (drop_halves h.1 d) (omega (arith, halves-drop h.1 d)),
    )

-- and the second sites what the second list does
pub match_seconds : (g : ℕ → ℕ) (u d : Halves) → halves u ≡ halves d → flow (λ x y. g y) (match u d) ≡ halves_at g d
unfolding tally halves
match_seconds g [] d e = rw (at_none g d (sym e)) (unfold match in refl)
match_seconds g (h ∷ u) d e = omega (
  arith,
  flow-cons (λ x y. g y) h u d,
  at_split g h.1 d,
  match_seconds g u (drop_halves h.1 d) (omega (arith, halves-drop h.1 d)),
)

-- where the sites of f stand behind place a of the first list, and those of g before it in the second,
-- no pair joins the one kind to the other
pub match-apart : (f g : ℕ → ℕ) (a : ℕ) (u d : Halves) → halves_at f (take_halves a u) ≡ 0 → halves_at g (drop_halves a d) ≡ 0
    → flow (λ x y. f x * g y) (match u d) ≡ 0
unfolding tally take_halves
match-apart f g a [] d p q = unfold match in refl
match-apart f g a (h ∷ u) d p q =
    let z = at-put f h.0 (min a h.1) (take_halves (a - h.1) u) in
    let rest = match-apart f g (a - h.1) u (drop_halves h.1 d) (omega arith)
    (rw (drop-drop (a - h.1) h.1 d) (drop-later g (a - h.1 + h.1) a d (omega arith) q)) in
    let none : (m : ℕ) → f h.0 * m ≡ 0 → halves_at g (take_halves h.1 d) ≡ m → flow (λ x y. f x * g y) (match (h ∷ u) d) ≡ 0 = λ m o e.
    omega (arith, flow-cons (λ x y. f x * g y) h u d, at_mul (f h.0) g (take_halves h.1 d), ap (λ b. f h.0 * b) e) in
    same? (min a h.1) 0
    (λ e. none 0 (omega arith) (same? h.1 0
    (λ o. at_none g (take_halves h.1 d) (omega (arith, halves-take h.1 d)))
    (λ o. omega (arith, at_split g h.1 d, at_split g a d, at_none g (take_halves a d) (omega (arith, halves-take a d))))))
    (λ s. let o : f h.0 ≡ 0 = omega (arith, mul-le-mul_right (f h.0) (let l : 1 ≤ min a h.1 = omega arith in l)) in
    none (halves_at g (take_halves h.1 d)) (rw o (omega arith)) refl)

-- ---- each pair of a match

-- its sites come from the two lists, and its amount is not 0
pub record Matched (P Q : ℕ → Type 0) (e : Pair) : Type 0 where
  pub left : P e.first
  pub right : Q e.second
  pub positive : 1 ≤ e.amount

module _ (P Q : ℕ → Type 0) where
  give-each : (x : ℕ) (l : Halves) → P x → Each (λ h. Q h.0) l → Filled l → Each (Matched P Q) (give x l)
  unfolding give
  give-each x [] p q r = tt
  give-each x (h ∷ l) p q r = (record { left = p; right = q.0; positive = r.0 }, give-each x l p q.1 r.1)

  pub match-each : (u d : Halves) → Each (λ h. P h.0) u → Each (λ h. Q h.0) d → Each (Matched P Q) (match u d)
  unfolding match
  match-each [] d p q = tt
  match-each (h ∷ u) d p q =
      let front = take_thins h.1 d in
      each_append (Matched P Q) (give h.0 (take_halves h.1 d)) (match u (drop_halves h.1 d))
      (give-each h.0 (take_halves h.1 d) p.0 (thinned_each Q front q) (thinned_filled front))
      (match-each u (drop_halves h.1 d) p.1 (thinned_each Q (drop_thins h.1 d) q))

  -- pairs of positive amounts are no more than what they carry
  pub times-flow : (w : ℕ → ℕ → ℕ) (es : List Pair) → Each (Matched P Q) es → times w es ≤ flow w es
  unfolding tally
  times-flow w [] p = omega arith
  times-flow w (e ∷ es) p = omega (arith, times-flow w es p.1, mul-le-mul_right (w e.first e.second) p.0.positive)

-- ---- how many, and how often

length-give : (x : ℕ) (l : Halves) → length (give x l) ≡ length l
unfolding give
length-give x [] = refl
length-give x (h ∷ l) = ap suc (length-give x l)

-- a match of m and m' entries makes at most m + m' - 1 pairs
pub match-length : (u d : Halves) → length (match u d) ≤ length u + length d - 1
unfolding match
match-length [] d = omega arith
match-length (h ∷ u) d = omega (
  arith,
  length-append (give h.0 (take_halves h.1 d)) (match u (drop_halves h.1 d)),
  length-give h.0 (take_halves h.1 d),
  match-length u (drop_halves h.1 d),
  thinned_short (take_thins h.1 d),
  split-length h.1 d,
)

times-give : (f g : ℕ → ℕ) (x : ℕ) (l : Halves) → times (λ a b. f a * g b) (give x l) ≡ f x * tally (λ h. g h.0) l
unfolding tally give
times-give f g x [] = omega arith
times-give f g x (h ∷ l) = omega (arith, times-give f g x l)

-- a pair arises at most as often as its sites stand in the two lists
pub match-times : (f g : ℕ → ℕ) (u d : Halves) → times (λ a b. f a * g b) (match u d) ≤ tally (λ h. f h.0) u * tally (λ h. g h.0) d
unfolding tally match
match-times f g [] d = omega arith
match-times f g (h ∷ u) d = omega (
  arith,
  tally-append (λ e. f e.first * g e.second) (give h.0 (take_halves h.1 d)) (match u (drop_halves h.1 d)),
  times-give f g h.0 (take_halves h.1 d),
  match-times f g u (drop_halves h.1 d),
  mul-le-mul_left (f h.0) (thinned_tally g (take_thins h.1 d)),
  mul-le-mul_left (tally (λ h. f h.0) u) (thinned_tally g (drop_thins h.1 d)),
)
