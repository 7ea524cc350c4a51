-- Laws of lists in strict order: what stands in lists that are made of lists, and in which order.
use Rattle.std.specs.Prelude.{◌≡◌, ◌⊎◌, length, get_or}
use Rattle.std.proofs.Math.Path.{refl, sym}
use Rattle.std.proofs.Common.{ap, ◌∙◌, arith, length-append}
use Rattle.std.proofs.Math.Logic.{inl, inr}
use mathlib.Core.List.{List, [], ◌∷◌, ◌++◌, map, flat_map}
use Prim.Native.Nat.{ℕ, zero, suc, ◌+◌, ◌*◌, ◌^◌, ◌≤◌, ◌<◌}
use Rattle.std.proofs.Math.Decide.{ℕ_discrete}
use Rattle.std.proofs.Math.Nat.{pow-zero, pow-succ'}
use Rattle.std.proofs.lemmas.List.{length-map}
use Rattle.lists.specs.Numbers.{upfrom}
use Rattle.theory_book.specs.Listing.{In, Ascends, Before, combos, words}
use Rattle.theory_book.specs.ListLaws.{from_in}

pub either : {P Q C : Type 0} → P ⊎ Q → (P → C) → (Q → C) → C
either (inl p) f g = f p
either (inr q) f g = g q

module _ {A : Type 0} where
  pub in_left : (x : A) (l m : List A) → In x l → In x (l ++ m)
  in_left x (a ∷ l) m (inl e) = inl e
  in_left x (a ∷ l) m (inr h) = inr (in_left x l m h)
  in_left x [] m x'' = elim x'' [ ]

  pub in_right : (x : A) (l m : List A) → In x m → In x (l ++ m)
  in_right x [] m h = h
  in_right x (a ∷ l) m h = inr (in_right x l m h)

  pub in_append : (x : A) (l m : List A) → In x (l ++ m) → In x l ⊎ In x m
  in_append x [] m h = inr h
  in_append x (a ∷ l) m (inl e) = inl (inl e)
  in_append x (a ∷ l) m (inr h) = either (in_append x l m h) (λ i. inl (inr i)) (λ i. inr i)

module _ {A B : Type 0} where
  pub in_map : (f : A → B) (l : List A) (x : A) (y : B) → y ≡ f x → In x l → In y (map f l)
  in_map f (a ∷ l) x y e (inl h) = inl (e ∙ ap f h)
  in_map f (a ∷ l) x y e (inr h) = inr (in_map f l x y e h)
  in_map f [] x y e x4 = elim x4 [ ]

  pub map_in : (f : A → B) (l : List A) (y : B) → In y (map f l) → (x : A) × In x l × (y ≡ f x)
  map_in f (a ∷ l) y (inl e) = (a, inl refl, e)
  map_in f (a ∷ l) y (inr h) = let r = map_in f l y h in (r.0, inr r.1, r.2)
  map_in f [] y x' = elim x' [ ]

  pub in_flat : (f : A → List B) (l : List A) (a : A) (y : B) → In a l → In y (f a) → In y (flat_map f l)
  unfolding flat_map
  in_flat f (b ∷ l) a y (inl e) h = in_left y (f b) (flat_map f l) (rw e at h)
  in_flat f (b ∷ l) a y (inr i) h = in_right y (f b) (flat_map f l) (in_flat f l a y i h)
  in_flat f [] a y x'' h = elim x'' [ ]

  pub flat_in : (f : A → List B) (l : List A) (y : B) → In y (flat_map f l) → (a : A) × In a l × In y (f a)
  unfolding flat_map
  flat_in f (b ∷ l) y h = either (in_append y (f b) (flat_map f l) h)
      (λ i. (b, inl refl, i))
      (λ i. let r = flat_in f l y i in (r.0, inr r.1, r.2))
  flat_in f [] y h = elim h [ ]

module _ {A : Type 0} (R : A → A → Type 0) where
  pub ascends_append : (l m : List A) → Ascends R l → Ascends R m → ((x y : A) → In x l → In y m → R x y) → Ascends R (l ++ m)
  ascends_append [] m p q h = q
  ascends_append (a ∷ l) m p q h =
      (λ y i. either (in_append y l m i) (p.0 y) (h a y (inl refl)), ascends_append l m p.1 q (λ x y i. h x y (inr i)))

module _ {A B : Type 0} (R : A → A → Type 0) (S : B → B → Type 0) where
  pub ascends_map : (f : A → B) (l : List A) → ((x y : A) → R x y → S (f x) (f y)) → Ascends R l → Ascends S (map f l)
  ascends_map f [] h p = tt
  ascends_map f (a ∷ l) h p = (
    λ y i. let r = map_in f l y i in rw r.2 (h a r.0 (p.0 r.0 r.1)),
    ascends_map f l h p.1,
  )

  pub ascends_flat : (f : A → List B) (l : List A) → ((a : A) → In a l → Ascends S (f a))
      → ((a b : A) (x y : B) → R a b → In x (f a) → In y (f b) → S x y) → Ascends R l → Ascends S (flat_map f l)
  unfolding flat_map
  ascends_flat f [] h k p = tt
  ascends_flat f (a ∷ l) h k p = ascends_append S (f a) (flat_map f l) (h a (inl refl)) (ascends_flat f l (λ b i. h b (inr i)) k p.1)
      (λ x y i j. let r = flat_in f l y j in k a r.0 x y (p.0 r.0 r.1) i r.2)

pub in_from : (b n x : ℕ) → b ≤ x → x < b + n → In x (upfrom b n)
unfolding upfrom
in_from b zero x p q = absurd (omega arith)
in_from b (suc n) x p q = elim (ℕ_discrete x b) [
  | yes e ↦ inl e
  | no d ↦ inr (in_from (suc b) n x (omega arith) (omega arith))
]

pub ascends_from : (b n : ℕ) → Ascends ◌<◌ (upfrom b n)
unfolding upfrom
ascends_from b zero = tt
ascends_from b (suc n) = (λ y i. (from_in (suc b) n y i).0, ascends_from (suc b) n)

module _ {A : Type 0} where
  pub in_words : (d : List A) (k : ℕ) (w : List A) → length w ≡ k → ((x : A) → In x w → In x d) → In w (words d k)
  unfolding words
  in_words d zero [] e h = inl refl
  in_words d zero (a ∷ w) e h = absurd (omega arith)
  in_words d (suc k) [] e h = absurd (omega arith)
  in_words d (suc k) (a ∷ w) e h = in_flat (λ a. map (λ w. a ∷ w) (words d k)) d a (a ∷ w) (h a (inl refl))
      (in_map (λ w. a ∷ w) (words d k) w (a ∷ w) refl (in_words d k w (omega arith) (λ x i. h x (inr i))))

  pub words_in : (d : List A) (k : ℕ) (w : List A) → In w (words d k) → (length w ≡ k) × ((x : A) → In x w → In x d)
  unfolding words
  words_in d zero w (inl e) = rw e (refl, λ x i. absurd i)
  words_in d (suc k) w h =
      let r = flat_in (λ a. map (λ w. a ∷ w) (words d k)) d w h in
      let q = map_in (λ w. r.0 ∷ w) (words d k) w r.2 in
      let ih = words_in d k q.0 q.1 in
      rw q.2 (ap suc ih.0, λ x i. either i (λ e. rw e r.1) (ih.1 x))
  words_in d zero w (inr x'') = elim x'' [ ]

  pub ascends_words : (R : A → A → Type 0) (d : List A) → Ascends R d → (k : ℕ) → Ascends (Before R) (words d k)
  unfolding words
  ascends_words R d p zero = (λ y i. absurd i, tt)
  ascends_words R d p (suc k) = ascends_flat R (Before R) (λ a. map (λ w. a ∷ w) (words d k)) d
      (λ a i. ascends_map (Before R) (Before R) (λ w. a ∷ w) (words d k) (λ x y h. inr (refl, h)) (ascends_words R d p k))
      (λ a b x y r i j. let u = map_in (λ w. a ∷ w) (words d k) x i in let v = map_in (λ w. b ∷ w) (words d k) y j in rw (u.2, v.2) (inl r))
      p

pub length-flat : {A B : Type 0} (f : A → List B) (k : ℕ) (l : List A) → ((a : A) → In a l → length (f a) ≡ k) → length (flat_map f l) ≡ length l * k
unfolding flat_map
length-flat f k [] h = omega arith
length-flat f k (a ∷ l) h = omega (arith, length-append (f a) (flat_map f l), h a (inl refl), length-flat f k l (λ b i. h b (inr i)))

pub length-words : {A : Type 0} (d : List A) (k : ℕ) → length (words d k) ≡ length d ^ k
unfolding words
length-words d zero = sym (pow-zero (length d))
length-words d (suc k) = length-flat (λ a. map (λ w. a ∷ w) (words d k)) (length d ^ k) d (λ a i. length-map (words d k) (λ w. a ∷ w) ∙ length-words d k)
    ∙ sym (pow-succ' (length d) k)

module _ {A : Type 0} (R : A → A → Type 0) where
  pub combos_in : (l : List A) (k : ℕ) (c : List A) → Ascends R l → In c (combos l k) → (length c ≡ k) × ((x : A) → In x c → In x l) × Ascends R c
  unfolding combos
  combos_in l zero c p (inl e) = rw e (refl, λ x i. absurd i, tt)
  combos_in (a ∷ l) (suc k) c p h = either (in_append c (map (λ c. a ∷ c) (combos l k)) (combos l (suc k)) h)
      (λ i. let r = map_in (λ c. a ∷ c) (combos l k) c i in
      let ih = combos_in l k r.0 p.1 r.1 in
      rw r.2 (ap suc ih.0, λ x j. either j (λ e. inl e) (λ j. inr (ih.1 x j)), (λ y j. p.0 y (ih.1 y j), ih.2)))
      (λ i. let ih = combos_in l (suc k) c p.1 i in (ih.0, λ x j. inr (ih.1 x j), ih.2))
  combos_in l zero c p (inr x3) = elim x3 [ ]
  combos_in [] (suc k) c p h = elim h [ ]

  combos-above : (a : A) (b l : List A) (k : ℕ) → ((y : A) → In y l → R a y) → (c : List A) → In c (combos l (suc k)) → Before R (a ∷ b) c
  unfolding combos
  combos-above a b (x ∷ l) k h c i = either (in_append c (map (λ c. x ∷ c) (combos l k)) (combos l (suc k)) i)
      (λ i. let r = map_in (λ c. x ∷ c) (combos l k) c i in rw r.2 (inl (h x (inl refl))))
      (λ i. combos-above a b l k (λ y j. h y (inr j)) c i)
  combos-above a b [] k h c i = elim i [ ]

  pub ascends_combos : (l : List A) (k : ℕ) → Ascends R l → Ascends (Before R) (combos l k)
  unfolding combos
  ascends_combos l zero p = (λ y i. absurd i, tt)
  ascends_combos [] (suc k) p = tt
  ascends_combos (a ∷ l) (suc k) p = ascends_append (Before R) (map (λ c. a ∷ c) (combos l k)) (combos l (suc k))
      (ascends_map (Before R) (Before R) (λ c. a ∷ c) (combos l k) (λ x y h. inr (refl, h)) (ascends_combos l k p.1))
      (ascends_combos l (suc k) p.1)
      (λ x y i j. let r = map_in (λ c. a ∷ c) (combos l k) x i in rw r.2 (combos-above a r.0 l k p.0 y j))

  module _ (apart : (x : A) → R x x → ⊥) (chain : (x y z : A) → R x y → R y z → R x z) where
    pub in_combos : (l : List A) (k : ℕ) (c : List A) → Ascends R l → length c ≡ k → ((x : A) → In x c → In x l) → Ascends R c → In c (combos l k)
    unfolding combos
    in_combos l zero [] p e h q = inl refl
    in_combos l zero (x ∷ c) p e h q = absurd (omega arith)
    in_combos [] (suc k) [] p e h q = absurd (omega arith)
    in_combos [] (suc k) (x ∷ c) p e h q = h x (inl refl)
    in_combos (a ∷ l) (suc k) [] p e h q = absurd (omega arith)
    in_combos (a ∷ l) (suc k) (x ∷ c) p e h q = either (h x (inl refl))
        (λ z. in_left (x ∷ c) (map (λ c. a ∷ c) (combos l k)) (combos l (suc k))
        (in_map (λ c. a ∷ c) (combos l k) c (x ∷ c) (ap (λ y. y ∷ c) z)
        (in_combos l k c p.1 (omega arith) (λ y j. either (h y (inr j)) (λ u. absurd (apart x (rw (u ∙ sym z) at (q.0 y j)))) (λ u. u)) q.1)))
        (λ z. in_right (x ∷ c) (map (λ c. a ∷ c) (combos l k)) (combos l (suc k))
        (in_combos l (suc k) (x ∷ c) p.1 e
        (λ y j. either (h y j)
        (λ u. either j
        (λ v. rw v z)
        (λ v. absurd (apart a (chain a x a (p.0 x z) (rw u at (q.0 y v))))))
        (λ u. u))
        q))

module _ {A : Type 0} where
  pub in_get_d : (l : List A) (d : A) (j : ℕ) → j < length l → In (get_or l j d) l
  in_get_d [] d j h = absurd (omega arith)
  in_get_d (a ∷ l) d zero h = inl refl
  in_get_d (a ∷ l) d (suc j) h = inr (in_get_d l d j (omega arith))

  pub get_d_in : (l : List A) (d x : A) → In x l → (j : ℕ) × (j < length l) × (x ≡ get_or l j d)
  get_d_in (a ∷ l) d x (inl e) = (0, omega arith, e)
  get_d_in (a ∷ l) d x (inr h) = let r = get_d_in l d x h in (suc r.0, omega (arith, r.1), r.2)
  get_d_in [] d x x3 = elim x3 [ ]

  -- of two places the first holds the earlier
  pub places : (R : A → A → Type 0) (l : List A) (d : A) → Ascends R l → (i j : ℕ) → i < j → j < length l → R (get_or l i d) (get_or l j d)
  places R [] d p i j u v = absurd (omega arith)
  places R (a ∷ l) d p zero zero u v = absurd (omega arith)
  places R (a ∷ l) d p (suc i) zero u v = absurd (omega arith)
  places R (a ∷ l) d p zero (suc j) u v = p.0 (get_or l j d) (in_get_d l d j (omega arith))
  places R (a ∷ l) d p (suc i) (suc j) u v = places R l d p.1 i j (omega arith) (omega arith)

-- a list is never before itself
pub before-apart : {A : Type 0} (R : A → A → Type 0) → ((x : A) → R x x → ⊥) → (l : List A) → Before R l l → ⊥
before-apart R h [] b = b
before-apart R h (a ∷ l) (inl r) = h a r
before-apart R h (a ∷ l) (inr b) = before-apart R h l b.1

pub before-chain : {A : Type 0} (R : A → A → Type 0) → ((x y z : A) → R x y → R y z → R x z) → (x y z : List A) → Before R x y → Before R y z → Before R x z
before-chain R h [] y z p q = p
before-chain R h (a ∷ x) [] z p q = absurd p
before-chain R h (a ∷ x) (b ∷ y) [] p q = q
before-chain R h (a ∷ x) (b ∷ y) (c ∷ z) (inl p) (inl q) = inl (h a b c p q)
before-chain R h (a ∷ x) (b ∷ y) (c ∷ z) (inl p) (inr q) = inl (rw q.0 at p)
before-chain R h (a ∷ x) (b ∷ y) (c ∷ z) (inr p) (inl q) = inl (rw p.0 q)
before-chain R h (a ∷ x) (b ∷ y) (c ∷ z) (inr p) (inr q) = inr (p.0 ∙ q.0, before-chain R h x y z p.1 q.1)

module _ {A : Type 0} (R : A → A → Type 0) (apart : (x : A) → R x x → ⊥) (chain : (x y z : A) → R x y → R y z → R x z) where
  never : (a b : A) → R a b → R b a → ⊥
  never a b p q = apart a (chain a b a p q)

  pub one_list : (l m : List A) → Ascends R l → Ascends R m → ((x : A) → In x l → In x m) → ((x : A) → In x m → In x l) → l ≡ m
  one_list [] [] p q h k = refl
  one_list [] (b ∷ m) p q h k = absurd (k b (inl refl))
  one_list (a ∷ l) [] p q h k = absurd (h a (inl refl))
  one_list (a ∷ l) (b ∷ m) p q h k =
      let e : a ≡ b = either (h a (inl refl)) (λ e. e)
      (λ i. either (k b (inl refl)) sym (λ j. absurd (never a b (p.0 b j) (q.0 a i)))) in
      rw (
        e,
        one_list l m p.1 q.1
            (λ x i. either (h x (inr i)) (λ z. absurd (apart a (rw (z ∙ sym e) at (p.0 x i)))) (λ j. j))
            (λ x i. either (k x (inr i)) (λ z. absurd (apart b (rw (z ∙ e) at (q.0 x i)))) (λ j. j)),
      )
