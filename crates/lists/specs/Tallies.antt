-- Sums over a list, and what holds of each of its entries.
use Rattle.std.specs.Prelude.{◌≡◌, ◌⊎◌, ℕ, ◌+◌, ◌*◌, ◌≤◌}
use Rattle.std.proofs.Math.Path.{refl}
use Rattle.std.proofs.Math.Logic.{inl, inr}
use mathlib.Core.List.{List, [], ◌∷◌, ◌++◌}
use native.Mathlib.Omega.{arith}
use Rattle.lists.specs.Numbers.{Each}
use Rattle.lists.specs.Sums.{same?}

module _ {A : Type 0} where
  -- the sum of g over the entries of a list
  unfoldable pub tally : (A → ℕ) → List A → ℕ
  tally g [] = 0
  tally g (a ∷ l) = g a + tally g l

  pub tally-append : (g : A → ℕ) (l m : List A) → tally g (l ++ m) ≡ tally g l + tally g m
  unfolding tally
  tally-append g [] m = omega arith
  tally-append g (a ∷ l) m = omega (arith, tally-append g l m)

  pub tally-add : (f g : A → ℕ) (l : List A) → tally (λ a. f a + g a) l ≡ tally f l + tally g l
  unfolding tally
  tally-add f g [] = refl
  tally-add f g (a ∷ l) = omega (arith, tally-add f g l)

  pub tally-mul : (k : ℕ) (g : A → ℕ) (l : List A) → tally (λ a. k * g a) l ≡ k * tally g l
  unfolding tally
  tally-mul k g [] = omega arith
  tally-mul k g (a ∷ l) = omega (arith, tally-mul k g l)

  pub tally-le : (f g : A → ℕ) (l : List A) → Each (λ a. f a ≤ g a) l → tally f l ≤ tally g l
  unfolding tally
  tally-le f g [] p = omega arith
  tally-le f g (a ∷ l) p = omega (arith, p.0, tally-le f g l p.1)

  pub tally-eq : (f g : A → ℕ) (l : List A) → Each (λ a. f a ≡ g a) l → tally f l ≡ tally g l
  unfolding tally
  tally-eq f g [] p = refl
  tally-eq f g (a ∷ l) p = omega (arith, p.0, tally-eq f g l p.1)

  pub tally-none : (l : List A) → tally (λ a. 0) l ≡ 0
  unfolding tally
  tally-none [] = refl
  tally-none (a ∷ l) = omega (arith, tally-none l)

  pub tally-zero : (g : A → ℕ) (l : List A) → Each (λ a. g a ≡ 0) l → tally g l ≡ 0
  tally-zero g l p = omega (arith, tally-eq g (λ a. 0) l p, tally-none l)

  -- what bounds a sum bounds each of its terms
  pub each-le : (g : A → ℕ) (m : ℕ) (l : List A) → tally g l ≤ m → Each (λ a. g a ≤ m) l
  unfolding tally
  each-le g m [] p = tt
  each-le g m (a ∷ l) p = (omega arith, each-le g m l (omega arith))

  -- a sum that is not 0 has a term that is not
  pub tally-some : (P : A → Type 0) (g : A → ℕ) (l : List A) → Each P l → (tally g l ≡ 0) ⊎ ((a : A) × P a × (1 ≤ g a))
  unfolding tally
  tally-some P g [] p = inl refl
  tally-some P g (a ∷ l) p = same? (g a) 0
      (λ z. elim (tally-some P g l p.1) [ inl e ↦ inl (omega arith) | inr r ↦ inr r ])
      (λ d. inr (a, p.0, omega arith))

  pub each_all : (P : A → Type 0) → ((a : A) → P a) → (l : List A) → Each P l
  each_all P f [] = tt
  each_all P f (a ∷ l) = (f a, each_all P f l)

  pub each_map : (P Q : A → Type 0) → ((a : A) → P a → Q a) → (l : List A) → Each P l → Each Q l
  each_map P Q f [] p = tt
  each_map P Q f (a ∷ l) p = (f a p.0, each_map P Q f l p.1)

  pub each_both : (P Q R : A → Type 0) → ((a : A) → P a → Q a → R a) → (l : List A) → Each P l → Each Q l → Each R l
  each_both P Q R f [] p q = tt
  each_both P Q R f (a ∷ l) p q = (f a p.0 q.0, each_both P Q R f l p.1 q.1)

  pub each_append : (P : A → Type 0) (l m : List A) → Each P l → Each P m → Each P (l ++ m)
  each_append P [] m p q = q
  each_append P (a ∷ l) m p q = (p.0, each_append P l m p.1 q)
