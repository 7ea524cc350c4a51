-- Laws of lists made of lists, one after another, and of loops over numbers that make them.
use Rattle.std.specs.Prelude.{◌≡◌}
use Rattle.std.proofs.Math.Path.{refl, ap}
use Rattle.std.proofs.Common.{sym, ◌∙◌, inl, inr}
use mathlib.Core.List.{List, [], ◌∷◌, ◌++◌, map, flat_map, append_assoc, append-nil}
use Prim.Native.Nat.{ℕ, zero, suc, ◌+◌, ◌*◌}
use native.Mathlib.Omega.{arith}
use Rattle.lists.specs.Numbers.{upfrom}
use Rattle.theory_book.specs.Listing.{In}

-- ---- laws of flat_map

module _ {A B : Type 0} where
  pub flat_append : (f : A → List B) (l m : List A) → flat_map f (l ++ m) ≡ flat_map f l ++ flat_map f m
  unfolding flat_map
  flat_append f [] m = refl
  flat_append f (a ∷ l) m = rw (flat_append f l m) (sym (append_assoc (f a) (flat_map f l) (flat_map f m)))

  pub flat-same : (f g : A → List B) (l : List A) → ((a : A) → In a l → f a ≡ g a) → flat_map f l ≡ flat_map g l
  unfolding flat_map
  flat-same f g [] h = refl
  flat-same f g (a ∷ l) h = rw (h a (inl refl), flat-same f g l (λ b i. h b (inr i)))

  pub flat-none : (f : A → List B) (l : List A) → ((a : A) → In a l → f a ≡ []) → flat_map f l ≡ []
  unfolding flat_map
  flat-none f [] h = refl
  flat-none f (a ∷ l) h = rw (h a (inl refl)) (flat-none f l (λ b i. h b (inr i)))

  pub map-flat : (f : A → B) (l : List A) → map f l ≡ flat_map (λ a. f a ∷ []) l
  unfolding flat_map
  map-flat f [] = refl
  map-flat f (a ∷ l) = ap (λ r. f a ∷ r) (map-flat f l)

module _ {A B C : Type 0} where
  pub flat-flat : (g : B → List C) (f : A → List B) (l : List A) → flat_map g (flat_map f l) ≡ flat_map (λ a. flat_map g (f a)) l
  unfolding flat_map
  flat-flat g f [] = refl
  flat-flat g f (a ∷ l) = flat_append g (f a) (flat_map f l) ∙ ap (λ r. flat_map g (f a) ++ r) (flat-flat g f l)

  pub flat-map : (g : B → List C) (f : A → B) (l : List A) → flat_map g (map f l) ≡ flat_map (λ a. g (f a)) l
  unfolding flat_map
  flat-map g f [] = refl
  flat-map g f (a ∷ l) = ap (λ r. g (f a) ++ r) (flat-map g f l)

  pub map_of_flat : (g : B → C) (f : A → List B) (l : List A) → map g (flat_map f l) ≡ flat_map (λ a. map g (f a)) l
  unfolding flat_map
  map_of_flat g f [] = refl
  map_of_flat g f (a ∷ l) = app (f a) (flat_map f l) ∙ ap (λ r. map g (f a) ++ r) (map_of_flat g f l)
    where
      app : (x y : List B) → map g (x ++ y) ≡ map g x ++ map g y
      app [] y = refl
      app (b ∷ x) y = ap (λ r. g b ∷ r) (app x y)

-- ---- numbers from b on

pub from-append : (b m n : ℕ) → upfrom b (m + n) ≡ upfrom b m ++ upfrom (b + m) n
unfolding upfrom
from-append b zero n = let e : 0 + n ≡ n = omega arith in let f : b + 0 ≡ b = omega arith in rw (e, f)
from-append b (suc m) n =
    let e : suc m + n ≡ suc (m + n) = omega arith in
    let f : b + suc m ≡ suc b + m = omega arith in
    rw (e, f) (ap (λ l. b ∷ l) (from-append (suc b) m n))

module _ {B : Type 0} where
  -- one round of a loop
  pub flat_round : (f : ℕ → List B) (b i : ℕ) → flat_map f (upfrom b (i + 1)) ≡ flat_map f (upfrom b i) ++ f (b + i)
  unfolding flat_map upfrom
  flat_round f b i = ap (flat_map f) (from-append b i 1) ∙ flat_append f (upfrom b i) (upfrom (b + i) 1)
      ∙ ap (λ r. flat_map f (upfrom b i) ++ r) (append-nil (f (b + i)))

  pub flat_shift : (f : ℕ → List B) (b c n : ℕ) → flat_map f (upfrom (b + c) n) ≡ flat_map (λ i. f (b + i)) (upfrom c n)
  unfolding flat_map upfrom
  flat_shift f b c zero = refl
  flat_shift f b c (suc n) =
      let e : suc (b + c) ≡ b + suc c = omega arith in
      ap (λ r. f (b + c) ++ r) (ap (λ k. flat_map f (upfrom k n)) e ∙ flat_shift f b (suc c) n)

  nil : (g : ℕ → List B) → flat_map g (upfrom 0 0) ≡ []
  unfolding flat_map upfrom
  nil g = refl

  -- j rows of w
  pub rows : (f : ℕ → List B) (w j : ℕ) → flat_map f (upfrom 0 (j * w)) ≡ flat_map (λ a. flat_map (λ s. f (a * w + s)) (upfrom 0 w)) (upfrom 0 j)
  rows f w zero = let e : 0 * w ≡ 0 = omega arith in rw e (nil f ∙ sym (nil (λ a. flat_map (λ s. f (a * w + s)) (upfrom 0 w))))
  rows f w (suc j) =
      let e : suc j * w ≡ j * w + w = omega arith in
      let z : 0 + j * w ≡ j * w + 0 = omega arith in
      let s : suc j ≡ j + 1 = omega arith in
      let o : 0 + j ≡ j = omega arith in
      ap (λ k. flat_map f (upfrom 0 k)) e ∙ ap (flat_map f) (from-append 0 (j * w) w) ∙ flat_append f (upfrom 0 (j * w)) (upfrom (0 + j * w) w)
      ∙ ap (λ r. r ++ flat_map f (upfrom (0 + j * w) w)) (rows f w j)
      ∙ ap (λ r. flat_map (λ a. flat_map (λ s. f (a * w + s)) (upfrom 0 w)) (upfrom 0 j) ++ r) (ap (λ k. flat_map f (upfrom k w)) z ∙ flat_shift f (j * w) 0 w)
      ∙ sym (ap (λ k. flat_map (λ a. flat_map (λ s. f (a * w + s)) (upfrom 0 w)) (upfrom 0 k)) s
      ∙ flat_round (λ a. flat_map (λ s. f (a * w + s)) (upfrom 0 w)) 0 j
      ∙ ap (λ k. flat_map (λ a. flat_map (λ s. f (a * w + s)) (upfrom 0 w)) (upfrom 0 j) ++ flat_map (λ s. f (k * w + s)) (upfrom 0 w)) o)
