-- The same elements in another order.
-- Document 02, Card 14 (the same records in different orders).
use Rattle.std.specs.Prelude.{List, [], ◌∷◌, ◌++◌, ◌⊎◌, ◌≡◌}

-- x stands in a list
abbrev pub Stands : {A : Type 0} → A → List A → Type 0
Stands x [] = ⊥
Stands x (y ∷ ys) = (y ≡ x) ⊎ Stands x ys

-- two lists hold the same elements in different orders, each as often, where Same says which count as the same: the first of the one list is the same as
-- some element of the other, and what is left of both holds the same elements
pub data Shuffled {A : Type 0} (Same : A → A → Type 0) : List A → List A → Type 0 where
  none : Shuffled Same [] []
  next : {a b : A} {xs ys : List A} (front back : List A) → Same a b → ys ≡ front ++ (b ∷ back) → Shuffled Same xs (front ++ back) → Shuffled Same (a ∷ xs) ys
