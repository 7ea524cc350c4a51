-- Laws of lists made by a function: of each element, of each place, of each site.
use Rattle.std.specs.Prelude.{◌≡◌, length, get_or}
use Rattle.std.proofs.Math.Path.{refl, ap}
use Rattle.std.proofs.Common.{◌∙◌}
use mathlib.Core.List.{List, [], ◌∷◌, map}
use Prim.Native.Nat.{ℕ, suc, ◌+◌, ◌<◌}
use native.Mathlib.Omega.{arith}
use Rattle.lists.specs.Numbers.{upfrom, Each}
use Rattle.model.specs.Flows.{Site, sites}
use Rattle.lists.specs.Maps.{each_from}

module _ {A : Type 0} where
  pub map-own : (l : List A) → map (λ a. a) l ≡ l
  map-own [] = refl
  map-own (a ∷ l) = ap (λ y. a ∷ y) (map-own l)

  places-from : (l : List A) (d : A) (f : ℕ → A) (b : ℕ) → ((i : ℕ) → i < length l → f (b + i) ≡ get_or l i d) → map f (upfrom b (length l)) ≡ l
  unfolding upfrom
  places-from [] d f b h = refl
  places-from (a ∷ l) d f b h =
      let here : b ≡ b + 0 = omega arith in
      let next : (i : ℕ) → suc b + i ≡ b + suc i = λ i. omega arith in
      rw (ap f here ∙ h 0 (omega arith), places-from l d f (suc b) (λ i k. ap f (next i) ∙ h (suc i) (omega arith)))

  -- what holds of what is made of each element holds of each that is made
  pub each_made : {B : Type 0} (P : B → Type 0) (g : A → B) (l : List A) → Each (λ a. P (g a)) l → Each P (map g l)
  each_made P g [] h = tt
  each_made P g (a ∷ l) h = (h.0, each_made P g l h.1)

  -- a list is made of its elements, place by place
  pub map-places : (l : List A) (d : A) (f : ℕ → A) → ((i : ℕ) → i < length l → f i ≡ get_or l i d) → map f (upfrom 0 (length l)) ≡ l
  map-places l d f h = places-from l d f 0 (λ i k. let same : 0 + i ≡ i = omega arith in ap f same ∙ h i k)

pub each-site : (P : ℕ → Type 0) (n : ℕ) → ((x : ℕ) → Site n x → P x) → Each P (sites n)
each-site P n h = each_from P 1 n (λ i l k. h i (omega arith))
