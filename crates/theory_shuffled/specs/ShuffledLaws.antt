-- What is shuffled stands in both lists; and two lists of which each holds the elements of the other, none of them twice, are shuffled.
-- Element by element.
use Rattle.std.specs.Prelude.{List, [], ◌∷◌, ◌++◌, ◌⊎◌, ◌≡◌, refl}
use Rattle.std.proofs.Common.{inl, inr, sym, ap, subst}
use Rattle.theory_shuffled.specs.Shuffled.{Stands, Shuffled, none, next}

-- ---- a list and one element more

module _ {A : Type 0} where
  -- what stands in one of two parts stands in both together
  pub stands_front : (x : A) (l m : List A) → Stands x l → Stands x (l ++ m)
  stands_front x [] m z = absurd z
  stands_front x (a ∷ l) m (inl e) = inl e
  stands_front x (a ∷ l) m (inr z) = inr (stands_front x l m z)

  pub stands_behind : (x : A) (l m : List A) → Stands x m → Stands x (l ++ m)
  stands_behind x [] m z = z
  stands_behind x (a ∷ l) m z = inr (stands_behind x l m z)

  pub stands_either : (x : A) (l m : List A) → Stands x (l ++ m) → Stands x l ⊎ Stands x m
  stands_either x [] m z = inr z
  stands_either x (a ∷ l) m (inl e) = inl (inl e)
  stands_either x (a ∷ l) m (inr z) = elim (stands_either x l m z) [ inl h ↦ inl (inr h) | inr h ↦ inr h ]

  -- an element put in: it stands there, and so does what stood there, and nothing else
  stands_put : (b : A) (front back : List A) → Stands b (front ++ (b ∷ back))
  stands_put b front back = stands_behind b front (b ∷ back) (inl refl)

  stands_still : (x b : A) (front back : List A) → Stands x (front ++ back) → Stands x (front ++ (b ∷ back))
  stands_still x b [] back z = inr z
  stands_still x b (a ∷ front) back (inl e) = inl e
  stands_still x b (a ∷ front) back (inr z) = inr (stands_still x b front back z)

  stands_or_put : (x b : A) (front back : List A) → Stands x (front ++ (b ∷ back)) → (b ≡ x) ⊎ Stands x (front ++ back)
  stands_or_put x b [] back z = z
  stands_or_put x b (a ∷ front) back (inl e) = inr (inl e)
  stands_or_put x b (a ∷ front) back (inr z) = elim (stands_or_put x b front back z) [ inl h ↦ inl h | inr h ↦ inr (inr h) ]

  -- where an element stands, a list falls into what is before it and what is after it
  pub parted : (b : A) (l : List A) → Stands b l → (front : List A) × (back : List A) × (l ≡ front ++ (b ∷ back))
  parted b [] z = absurd z
  parted b (a ∷ l) (inl e) = ([], l, ap (λ y. y ∷ l) e)
  parted b (a ∷ l) (inr z) = let h = parted b l z in (a ∷ h.0, h.1, ap (λ y. a ∷ y) h.2)

-- ---- what is shuffled stands in both lists

module _ {A : Type 0} (Same : A → A → Type 0) where
  -- each element of the one list is the same as one of the other, and the other way
  abbrev pub Covers : List A → List A → Type 0
  Covers xs ys = (a : A) → Stands a xs → (b : A) × Stands b ys × Same a b

  abbrev pub Covered : List A → List A → Type 0
  Covered xs ys = (b : A) → Stands b ys → (a : A) × Stands a xs × Same a b

  pub shuffled_covers : {xs ys : List A} → Shuffled Same xs ys → Covers xs ys
  shuffled_covers none a z = absurd z
  shuffled_covers (next {b = b} front back s e h) a (inl z) = (b, subst (Stands b) (sym e) (stands_put b front back), subst (λ y. Same y b) z s)
  shuffled_covers (next {b = b} front back s e h) a (inr z) =
      let k = shuffled_covers h a z in (k.0, subst (Stands k.0) (sym e) (stands_still k.0 b front back k.1), k.2)

  pub shuffled_is_covered : {xs ys : List A} → Shuffled Same xs ys → Covered xs ys
  shuffled_is_covered none b z = absurd z
  shuffled_is_covered (next {a = a} {b = c} front back s e h) b z = elim (stands_or_put b c front back (subst (Stands b) e z)) [
    | inl q ↦ (a, inl refl, subst (Same a) q s)
    | inr q ↦ let k = shuffled_is_covered h b q in (k.0, inr k.1, k.2)
  ]

  -- ---- and what stands in both, once, is shuffled

  -- no element of a list is the same as a later one
  abbrev pub Apart : List A → Type 0
  Apart [] = Unit {0}
  Apart (a ∷ xs) = ((b : A) → Stands b xs → ¬ (Same a b)) × Apart xs

  module _ (turn : (a b : A) → Same a b → Same b a) (join : (a b c : A) → Same a b → Same b c → Same a c) where
    -- an element taken out is the same as none that is left
    apart-without : (b : A) (front back : List A) → Apart (front ++ (b ∷ back)) → ((x : A) → Stands x (front ++ back) → ¬ (Same b x)) × Apart (front ++ back)
    apart-without b [] back h = h
    apart-without b (a ∷ front) back h =
        let k = apart-without b front back h.1 in (
          λ x z s. elim z [
            | inl e ↦ h.0 b (stands_put b front back) (turn b a (subst (Same b) (sym e) s))
            | inr w ↦ k.0 x w s
          ],
          (λ x z s. h.0 x (stands_still x b front back z) s, k.1),
        )

    pub same_once_is_shuffled : (xs ys : List A) → Apart xs → Apart ys → Covers xs ys → Covered xs ys → Shuffled Same xs ys
    same_once_is_shuffled [] [] p q there back = none
    same_once_is_shuffled [] (b ∷ ys) p q there back = absurd (back b (inl refl)).1
    same_once_is_shuffled (a ∷ xs) ys p q there back =
        let k = there a (inl refl) in
        let b = k.0 in
        let w = parted b ys k.1 in
        let front = w.0 in
        let rear = w.1 in
        let rest = apart-without b front rear (subst Apart w.2 q) in
        let fore : Covers xs (front ++ rear) = λ x z.
        let h = there x (inr z) in
        elim (stands_or_put h.0 b front rear (subst (Stands h.0) w.2 h.1)) [
          | inl e ↦ absurd (p.0 x z (join a b x k.2 (turn x b (subst (Same x) (sym e) h.2))))
          | inr y ↦ (h.0, y, h.2)
        ] in
        let aft : Covered xs (front ++ rear) = λ y z.
        let h = back y (subst (Stands y) (sym w.2) (stands_still y b front rear z)) in
        elim h.1 [
          | inl e ↦ absurd (rest.0 y z (join b a y (turn a b k.2) (subst (λ x. Same x y) (sym e) h.2)))
          | inr x ↦ (h.0, x, h.2)
        ] in
        next front rear k.2 w.2 (same_once_is_shuffled xs (front ++ rear) p.1 rest.1 fore aft)

  -- ---- what stands apart

  -- one more, apart from all above
  pub apart_more : (xs : List A) (a : A) → Apart xs → ((x : A) → Stands x xs → ¬ (Same x a)) → Apart (xs ++ (a ∷ []))
  apart_more [] a h k = (λ b z. absurd z, tt)
  apart_more (x ∷ xs) a h k = (
    λ b z s. elim (stands_either b xs (a ∷ []) z) [
      | inl w ↦ h.0 b w s
      | inr w ↦ elim w [ inl e ↦ k x (inl refl) (subst (Same x) (sym e) s) | inr f ↦ f ]
    ],
    apart_more xs a h.1 (λ y z. k y (inr z)),
  )

  pub apart_above : (xs ys : List A) (a : A) → Apart (xs ++ (a ∷ ys)) → (x : A) → Stands x xs → ¬ (Same x a)
  apart_above [] ys a h x z = absurd z
  apart_above (y ∷ xs) ys a h x (inl e) = λ s. h.0 a (stands_put a xs ys) (subst (λ w. Same w a) (sym e) s)
  apart_above (y ∷ xs) ys a h x (inr z) = apart_above xs ys a h.1 x z

  pub apart-put : ((a b : A) → Same a b → Same b a) → (b : A) (front back : List A) → ((c : A) → Stands c (front ++ back) → ¬ (Same b c))
      → Apart (front ++ back) → Apart (front ++ (b ∷ back))
  apart-put turn b [] back n h = (n, h)
  apart-put turn b (a ∷ front) back n h = (
    λ c z s. elim (stands_or_put c b front back z) [
      | inl e ↦ n a (inl refl) (turn a b (subst (Same a) (sym e) s))
      | inr w ↦ h.0 c w s
    ],
    apart-put turn b front back (λ c z. n c (inr z)) h.1,
  )
