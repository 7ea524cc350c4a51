-- Laws of sums over lists of sites: all but one term compared, remainders, two sums in either order, and one site chosen of each class.
use Rattle.std.specs.Prelude.{◌≡◌, refl, ◌≢◌, List, [], ◌∷◌, ℕ, zero, suc, ◌+◌, ◌*◌, ◌%◌, ◌≤◌, ◌<◌}
use Rattle.std.proofs.Common.{sym, ap, ap₂, ◌∙◌, arith, mul-le-mul_right}
use Rattle.lists.specs.Numbers.{is, sum, count, over}
use Rattle.lists.specs.Sums.{is_same, is-other, is_iff, same?, sum-none, sum-add, sum-mul, sum-eq}
use Rattle.lists.specs.Places.{over_add, over-eq, over-le, over-is}

-- ---- sums over a list in which a site stands once

-- f ≤ g but for one site j: the sums compare once the two values there are set off against each other
pub over_le_but : (us : List ℕ) (j : ℕ) (f g : ℕ → ℕ) → count us j ≡ 1 → ((x : ℕ) → 1 ≤ count us x → x ≢ j → f x ≤ g x)
    → over us f + g j ≤ over us g + f j
unfolding over count
over_le_but [] j f g p h = absurd (omega arith)
over_le_but (u ∷ us) j f g p h = same? u j
    (λ e. rw e (omega (arith, over-le us f g (λ x q. h x (omega arith) (λ z. absurd (omega (arith, is_same e, rw z at q)))))))
    (λ d. omega (
      arith,
      h u (omega (arith, is_same {u = u} refl)) d,
      over_le_but us j f g (omega (arith, is-other d)) (λ x q. h x (omega arith)),
    ))

pub over_none : (us : List ℕ) → over us (λ x. 0) ≡ 0
unfolding over
over_none [] = refl
over_none (u ∷ us) = omega (arith, over_none us)

pub over-mod : (us : List ℕ) (f : ℕ → ℕ) → over us f % 2 ≤ over us (λ x. f x % 2)
unfolding over
over-mod [] f = omega arith
over-mod (u ∷ us) f = omega (arith, over-mod us f)

pub over_even : (us : List ℕ) (f : ℕ → ℕ) → ((x : ℕ) → 1 ≤ count us x → f x % 2 ≡ 0) → over us f % 2 ≡ 0
unfolding over count
over_even [] f h = omega arith
over_even (u ∷ us) f h = omega (arith, h u (omega (arith, is_same {u = u} refl)), over_even us f (λ x p. h x (omega arith)))

-- ---- sums over numbers below n

pub sum-zero : (n : ℕ) (f : ℕ → ℕ) → ((i : ℕ) → i < n → f i ≡ 0) → sum n f ≡ 0
sum-zero n f h = sum-eq n f (λ i. 0) h ∙ sum-none n

pub sum_even : (n : ℕ) (f : ℕ → ℕ) → ((i : ℕ) → i < n → f i % 2 ≡ 0) → sum n f % 2 ≡ 0
unfolding sum
sum_even zero f h = omega arith
sum_even (suc n) f h = omega (arith, sum_even n f (λ i l. h i (omega arith)), h n (omega arith))

-- ---- two lists

pub turn : (us vs : List ℕ) (g : ℕ → ℕ → ℕ) → over us (λ x. over vs (g x)) ≡ over vs (λ y. over us (λ x. g x y))
unfolding over
turn [] vs g = sym (over_none vs)
turn (u ∷ us) vs g = omega (arith, turn us vs g, over_add vs (g u) (λ y. over us (λ x. g x y)))

-- lists with the same sites have the same sums
pub over-same : (us vs : List ℕ) (f : ℕ → ℕ) → ((x : ℕ) → 1 ≤ count us x → count vs x ≡ 1) → ((x : ℕ) → 1 ≤ count vs x → count us x ≡ 1)
    → over us f ≡ over vs f
over-same us vs f h k =
    over-eq us f (λ x. over vs (λ y. is y x * f x)) (λ x p. omega (arith, over-is vs x (λ y. f x), ap (λ z. z * f x) (h x p)))
    ∙ turn us vs (λ x y. is y x * f x)
    ∙ over-eq vs (λ y. over us (λ x. is y x * f x)) f (λ y p. omega (
      arith,
      over-eq us (λ x. is y x * f x) (λ x. is x y * f x) (λ x q. ap (λ z. z * f x) (is_iff y x x y sym sym)),
      over-is us y f,
      ap (λ z. z * f y) (k y p),
    ))

-- ---- a sum over sites that is 1

pub over_ge : (us : List ℕ) (g : ℕ → ℕ) (w : ℕ) → 1 ≤ count us w → g w ≤ over us g
unfolding over count
over_ge [] g w p = absurd (omega arith)
over_ge (u ∷ us) g w p = same? u w
    (λ e. rw e (omega arith))
    (λ d. omega (arith, over_ge us g w (omega (arith, is-other d))))

pub over_only : (us : List ℕ) (g : ℕ → ℕ) → over us g ≡ 1 → (v : ℕ) × (1 ≤ count us v) × (g v ≡ 1) × ((w : ℕ) → 1 ≤ count us w → w ≢ v → g w ≡ 0)
unfolding over count
over_only [] g h = absurd (omega arith)
over_only (u ∷ us) g h = same? (g u) 0
    (λ z. let r = over_only us g (omega arith) in
    (r.0, omega (arith, r.1), r.2, λ w p d. same? u w (λ e. rw (← e) z) (λ n. r.3 w (omega (arith, is-other n)) d)))
    (λ z. (
      u,
      omega (arith, is_same {u = u} refl),
      omega (arith, h),
      λ w p d. omega (arith, h, over_ge us g w (omega (arith, is-other {u = u} {v = w} (λ e. d (sym e))))),
    ))

-- ---- two ways to choose a site of each class

module _ (us : List ℕ) (single : (x : ℕ) → count us x ≤ 1) (f g h : ℕ → ℕ)
    (f-in : (x : ℕ) → 1 ≤ count us x → 1 ≤ count us (f x)) (g-in : (x : ℕ) → 1 ≤ count us x → 1 ≤ count us (g x))
    (ff : (x : ℕ) → 1 ≤ count us x → f (f x) ≡ f x) (gg : (x : ℕ) → 1 ≤ count us x → g (g x) ≡ g x)
    (fg : (x y : ℕ) → 1 ≤ count us x → 1 ≤ count us y → f x ≡ f y → g x ≡ g y)
    (gf : (x y : ℕ) → 1 ≤ count us x → 1 ≤ count us y → g x ≡ g y → f x ≡ f y)
    (same : (x : ℕ) → 1 ≤ count us x → h (g x) ≡ h x) where
  one_time : (x : ℕ) → 1 ≤ count us x → count us x ≡ 1
  one_time x p = omega (arith, single x)

  from_f : (r : ℕ) → 1 ≤ count us r → is (f r) r * h r ≡ over us (λ y. is (f r) r * (is (g y) y * (is (f y) r * h y)))
  from_f r p = same? (f r) r
      (λ e. rw (is_same e) (omega (
        arith,
        over-eq us (λ y. 1 * (is (g y) y * (is (f y) r * h y))) (λ y. is y (g r) * h r) (λ y q. same? y (g r)
            (λ z. rw (is_same z) (rw z (rw (is_same (gg r p), is_same (gf (g r) r (g-in r p) p (gg r p) ∙ e), same r p) (omega arith))))
            (λ z. rw (is-other z) (same? (g y) y
            (λ u. rw (is_same u) (rw (is-other {u = f y} {v = r} (λ w. z (sym u ∙ fg y r q p (w ∙ sym e)))) (omega arith)))
            (λ u. rw (is-other u) (omega arith))))),
        over-is us (g r) (λ y. h r),
        ap (λ z. z * h r) (one_time (g r) (g-in r p)),
      )))
      (λ d. rw (is-other d) (omega (arith, over_none us, over-eq us (λ y. 0 * (is (g y) y * (is (f y) r * h y))) (λ y. 0) (λ y q. omega arith))))

  from-g : (y : ℕ) → 1 ≤ count us y → over us (λ r. is (f r) r * (is (g y) y * (is (f y) r * h y))) ≡ is (g y) y * h y
  from-g y p = omega (
    arith,
    over-eq us (λ r. is (f r) r * (is (g y) y * (is (f y) r * h y))) (λ r. is r (f y) * (is (f r) r * (is (g y) y * h y)))
        (λ r q. rw (is_iff (f y) r r (f y) sym sym) (omega arith)),
    over-is us (f y) (λ r. is (f r) r * (is (g y) y * h y)),
    ap₂ (λ a b. a * (b * (is (g y) y * h y))) (one_time (f y) (f-in y p)) (is_same (ff y p)),
  )

  pub choices : over us (λ x. is (f x) x * h x) ≡ over us (λ x. is (g x) x * h x)
  choices = over-eq us (λ r. is (f r) r * h r) (λ r. over us (λ y. is (f r) r * (is (g y) y * (is (f y) r * h y)))) from_f
      ∙ turn us us (λ r y. is (f r) r * (is (g y) y * (is (f y) r * h y)))
      ∙ over-eq us (λ y. over us (λ r. is (f r) r * (is (g y) y * (is (f y) r * h y)))) (λ y. is (g y) y * h y) from-g

-- two terms of a sum
pub over-two : (us : List ℕ) (f : ℕ → ℕ) (s t : ℕ) → 1 ≤ count us s → 1 ≤ count us t → s ≢ t → f s + f t ≤ over us f
over-two us f s t p q d = omega (
  arith,
  over-is us s (λ x. f s),
  over-is us t (λ x. f t),
  over_add us (λ x. is x s * f s) (λ x. is x t * f t),
  over-le us (λ x. is x s * f s + is x t * f t) f (λ x k. same? x s
      (λ e. rw (e, is_same {u = s} refl, is-other d) (omega arith))
      (λ n. rw (is-other n) (same? x t (λ e. rw (e, is_same {u = t} refl) (omega arith)) (λ m. rw (is-other m) (omega arith))))),
  mul-le-mul_right (f s) p,
  mul-le-mul_right (f t) q,
)

-- a sum over sites of sums over links, link by link
pub over-links : (us : List ℕ) (m : ℕ) (w : ℕ → ℕ) (d : ℕ → ℕ → ℕ) (g : ℕ → ℕ)
    → over us (λ a. w a * sum m (λ j. d a j * g j)) ≡ sum m (λ j. over us (λ a. w a * d a j) * g j)
unfolding over
over-links [] m w d g = sym (sum-zero m (λ j. 0 * g j) (λ j l. omega arith))
over-links (u ∷ us) m w d g = omega (
  arith,
  over-links us m w d g,
  sum-mul m (w u) (λ j. d u j * g j),
  sum-add m (λ j. w u * (d u j * g j)) (λ j. over us (λ a. w a * d a j) * g j),
  sum-eq m (λ j. (w u * d u j + over us (λ a. w a * d a j)) * g j) (λ j. w u * (d u j * g j) + over us (λ a. w a * d a j) * g j) (λ j l. omega arith),
)
