-- Lists in strict order, lists compared entry by entry, and the lists that can be made of the elements of a list.
-- Nothing here is a term of the papers; 02, Card 13, is written with it (compared entry by entry).
use Rattle.std.specs.Prelude.{◌≡◌, ◌⊎◌, ℕ, zero, suc}
use mathlib.Core.List.{List, [], ◌∷◌, ◌++◌, map, flat_map}

-- x stands in a list
abbrev pub In : {A : Type 0} → A → List A → Type 0
In x [] = ⊥
In x (a ∷ l) = (x ≡ a) ⊎ In x l

-- each element stands before all later ones
abbrev pub Ascends : {A : Type 0} → (A → A → Type 0) → List A → Type 0
Ascends R [] = Unit {0}
Ascends {A} R (a ∷ l) = ((y : A) → In y l → R a y) × Ascends R l

-- two lists compared entry by entry: the first entries that differ decide
abbrev pub Before : {A : Type 0} → (A → A → Type 0) → List A → List A → Type 0
Before R [] ys = ⊥
Before R (x ∷ xs) [] = ⊥
Before R (x ∷ xs) (y ∷ ys) = R x y ⊎ ((x ≡ y) × Before R xs ys)

-- the lists of k elements of l, each once at most, in the order of l
unfoldable pub combos : {A : Type 0} → List A → ℕ → List (List A)
combos l zero = [] ∷ []
combos [] (suc k) = []
combos (a ∷ l) (suc k) = map (λ c. a ∷ c) (combos l k) ++ combos l (suc k)

-- the lists of k elements of d, each as often as one likes
unfoldable pub words : {A : Type 0} → List A → ℕ → List (List A)
words d zero = [] ∷ []
words d (suc k) = flat_map (λ a. map (λ w. a ∷ w) (words d k)) d
