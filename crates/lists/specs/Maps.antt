-- Laws of lists made by a function: of each element, and of each place.
use Rattle.std.specs.Prelude.{◌≡◌, refl, List, [], ◌∷◌, map, ℕ, zero, suc, ◌+◌, ◌≤◌, ◌<◌}
use Rattle.std.proofs.Common.{ap, arith}
use Rattle.lists.specs.Numbers.{upfrom, Each}

module _ {A B : Type 0} where
  pub map-map : {C : Type 0} (f : B → C) (g : A → B) (l : List A) → map f (map g l) ≡ map (λ a. f (g a)) l
  map-map f g [] = refl
  map-map f g (a ∷ l) = ap (λ y. f (g a) ∷ y) (map-map f g l)

  pub map_same : (f g : A → B) (l : List A) → Each (λ a. f a ≡ g a) l → map f l ≡ map g l
  map_same f g [] e = refl
  map_same f g (a ∷ l) e = rw (e.0, map_same f g l e.1)

-- what holds from b up holds of each
pub each_from : (P : ℕ → Type 0) (b n : ℕ) → ((i : ℕ) → b ≤ i → i < b + n → P i) → Each P (upfrom b n)
unfolding upfrom
each_from P b zero h = tt
each_from P b (suc n) h = (h b (omega arith) (omega arith), each_from P (suc b) n (λ i l k. h i (omega arith) (omega arith)))
