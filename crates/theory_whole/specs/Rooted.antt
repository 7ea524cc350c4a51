-- Sites with parents: sums over the children of a site, and the two inductions, children first and parent first.
-- 0 is no site: it stands above the roots, as their parent.
use Rattle.std.specs.Prelude.{◌≡◌, refl, ◌≢◌}
use Rattle.std.proofs.Math.Path.{sym, ap}
use Rattle.std.proofs.Common.{◌∙◌, mul-le-mul_left}
use mathlib.Core.List.{List, [], ◌∷◌}
use Prim.Native.Nat.{ℕ, zero, suc, ◌+◌, ◌*◌, ◌%◌, ◌≤◌, ◌<◌}
use native.Mathlib.Omega.{arith}
use Rattle.lists.specs.Numbers.{pick, is, count, over}
use Rattle.lists.specs.Sums.{pick_same, pick_other, is_same, is-other, is_iff, same?}
use Rattle.lists.specs.Places.{over_add, over-eq, over-le, over-is}
use Rattle.theory_whole.specs.Sums.{over_le_but, over_none, over-mod}

module _ (us : List ℕ) (par : ℕ → ℕ) where
  -- the sum of f over the children of v
  unfoldable pub children : ℕ → (ℕ → ℕ) → ℕ
  children v f = over us (λ w. is (par w) v * f w)

  -- w is a child of v
  pub record Child (v w : ℕ) : Type 0 where
    pub site : 1 ≤ count us w
    pub parent : par w ≡ v

  pub children-add : (v : ℕ) (f g : ℕ → ℕ) → children v (λ w. f w + g w) ≡ children v f + children v g
  unfolding children
  children-add v f g =
      over-eq us (λ w. is (par w) v * (f w + g w)) (λ w. is (par w) v * f w + is (par w) v * g w) (λ w p. omega arith)
      ∙ over_add us (λ w. is (par w) v * f w) (λ w. is (par w) v * g w)

  part-le : (v w x y : ℕ) → (par w ≡ v → x ≤ y) → is (par w) v * x ≤ is (par w) v * y
  part-le v w x y h = same? (par w) v
      (λ e. mul-le-mul_left (is (par w) v) (h e))
      (λ d. rw (is-other d) (omega arith))

  pub children-le : (v : ℕ) (f g : ℕ → ℕ) → ((w : ℕ) → Child v w → f w ≤ g w) → children v f ≤ children v g
  unfolding children
  children-le v f g h = over-le us (λ w. is (par w) v * f w) (λ w. is (par w) v * g w)
      (λ w p. part-le v w (f w) (g w) (λ e. h w (record { site = p; parent = e })))

  pub children-eq : (v : ℕ) (f g : ℕ → ℕ) → ((w : ℕ) → Child v w → f w ≡ g w) → children v f ≡ children v g
  children-eq v f g h = omega (arith, children-le v f g (λ w k. omega (arith, h w k)), children-le v g f (λ w k. omega (arith, h w k)))

  pub children-none : (v : ℕ) → children v (λ w. 0) ≡ 0
  unfolding children
  children-none v = omega (arith, over_none us, over-eq us (λ w. is (par w) v * 0) (λ w. 0) (λ w p. omega arith))

  pub children-mod : (v : ℕ) (f : ℕ → ℕ) → children v f % 2 ≤ children v (λ w. f w % 2)
  unfolding children
  children-mod v f = omega (
    arith,
    over-mod us (λ w. is (par w) v * f w),
    over-le us (λ w. is (par w) v * f w % 2) (λ w. is (par w) v * (f w % 2))
        (λ w p. same? (par w) v (λ e. rw (is_same e) (omega arith)) (λ d. rw (is-other d) (omega arith))),
  )

  module _ (once : (x : ℕ) → count us x ≤ 1) where
    pub children_le_but : (v t : ℕ) (f g : ℕ → ℕ) → Child v t → ((w : ℕ) → Child v w → w ≢ t → f w ≤ g w) → children v f + g t ≤ children v g + f t
    unfolding children
    children_le_but v t f g k h =
        let one : is (par t) v ≡ 1 = is_same k.parent in
        omega (
          arith,
          rw one at (over_le_but us t (λ w. is (par w) v * f w) (λ w. is (par w) v * g w) (omega (arith, once t, k.site))
              (λ w p d. part-le v w (f w) (g w) (λ e. h w (record { site = p; parent = e }) d))),
        )

    pub children_eq_but : (v t : ℕ) (f g : ℕ → ℕ) → Child v t → ((w : ℕ) → Child v w → w ≢ t → f w ≡ g w) → children v f + g t ≡ children v g + f t
    children_eq_but v t f g k h = omega (
      arith,
      children_le_but v t f g k (λ w i d. omega (arith, h w i d)),
      children_le_but v t g f k (λ w i d. omega (arith, h w i d)),
    )

    -- a child's part, and that of two children
    pub children_ge : (v t : ℕ) (f : ℕ → ℕ) → Child v t → f t ≤ children v f
    children_ge v t f k = omega (arith, children-none v, children_le_but v t (λ w. 0) f k (λ w i d. omega arith))

    pub children-two : (v s t : ℕ) (f : ℕ → ℕ) → Child v s → Child v t → s ≢ t → f s + f t ≤ children v f
    children-two v s t f k l d =
        let g : ℕ → ℕ = λ w. pick w t 0 (f w) in
        omega (
          arith,
          pick_same {u = t} refl 0 (f t),
          pick_other d 0 (f s),
          children_ge v s g k,
          children_eq_but v t g f l (λ w i e. pick_other e 0 (f w)),
        )

  -- ---- every site but the roots is a child of one site
  module _ (root_free : count us 0 ≡ 0) (once : (x : ℕ) → count us x ≤ 1) (home : (w : ℕ) → 1 ≤ count us w → par w ≢ 0 → 1 ≤ count us (par w)) where
    is_comm : (u v : ℕ) → is u v ≡ is v u
    is_comm u v = is_iff u v v u sym sym

    each : (w : ℕ) → 1 ≤ count us w → count us (par w) + is (par w) 0 ≡ 1
    each w p = same? (par w) 0
        (λ e. rw (e, is_same {u = 0} refl, root_free) (omega arith))
        (λ d. omega (arith, is-other d, home w p d, once (par w)))

    exchange : (ws : List ℕ) (g : ℕ → ℕ) → ((w : ℕ) → 1 ≤ count ws w → 1 ≤ count us w)
        → over us (λ v. over ws (λ w. is (par w) v * g w)) + over ws (λ w. is (par w) 0 * g w) ≡ over ws g
    unfolding over count
    exchange [] g h = omega (arith, over_none us)
    exchange (w ∷ ws) g h = omega (
      arith,
      exchange ws g (λ x p. h x (omega arith)),
      over_add us (λ v. is (par w) v * g w) (λ v. over ws (λ w. is (par w) v * g w)),
      over-eq us (λ v. is (par w) v * g w) (λ v. is v (par w) * g w) (λ v p. rw (is_comm (par w) v) refl),
      over-is us (par w) (λ v. g w),
      ap (λ z. z * g w) (each w (h w (omega (arith, is_same {u = w} refl)))),
    )

    -- Lemma 1: what each site adds to the sums of its children comes together at the roots
    pub tree-sum : (f S : ℕ → ℕ) → ((v : ℕ) → 1 ≤ count us v → S v ≡ f v + children v S) → children 0 S ≡ over us f
    unfolding children
    tree-sum f S h = omega (
      arith,
      exchange us S (λ w p. p),
      over-eq us S (λ v. f v + children v S) h,
      over_add us f (λ v. children v S),
    )

-- ---- induction

pub record Rooted (us : List ℕ) (par pos : ℕ → ℕ) : Type 0 where
  pub once : (x : ℕ) → count us x ≤ 1
  pub root_free : count us 0 ≡ 0
  pub home : (w : ℕ) → 1 ≤ count us w → par w ≢ 0 → 1 ≤ count us (par w)
  pub later : (w : ℕ) → 1 ≤ count us w → pos w < pos (par w)
  pub last : (w : ℕ) → 1 ≤ count us w → pos w < pos 0

module _ {us : List ℕ} {par pos : ℕ → ℕ} (R : Rooted us par pos) (P : ℕ → Type 0) where
  pub children-first : ((v : ℕ) → 1 ≤ count us v → ((w : ℕ) → Child us par v w → P w) → P v) → (v : ℕ) → 1 ≤ count us v → P v
  children-first step v p = go (suc (pos v)) v p (omega arith)
    where
      go : (k v : ℕ) → 1 ≤ count us v → pos v < k → P v
      go zero v p l = absurd (omega arith)
      go (suc k) v p l = step v p (λ w i. go k w i.site (omega (arith, R.later w i.site, ap pos i.parent)))

  pub parent_first : P 0 → ((v : ℕ) → 1 ≤ count us v → P (par v) → P v) → (v : ℕ) → 1 ≤ count us v → P v
  parent_first top step v p = go (pos 0) v p (omega arith)
    where
      go : (k v : ℕ) → 1 ≤ count us v → pos 0 ≤ k + pos v → P v
      go zero v p l = absurd (omega (arith, R.last v p))
      go (suc k) v p l = step v p (same? (par v) 0
          (λ e. rw e top)
          (λ d. go k (par v) (R.home v p d) (omega (arith, R.later v p))))

-- ---- values that go by those of the children

module _ {us : List ℕ} {par pos : ℕ → ℕ} (R : Rooted us par pos) where
  -- F, made k times over
  unfoldable pub times : ((ℕ → ℕ) → ℕ → ℕ) → ℕ → ℕ → ℕ
  times F zero v = 0
  times F (suc k) v = F (times F k) v

  -- as often as the tree is deep: a solution of g v = F g v, if F g v takes g at children of v only
  pub fixed : (F : (ℕ → ℕ) → ℕ → ℕ)
      → ((g h : ℕ → ℕ) (v : ℕ) → 1 ≤ count us v → ((w : ℕ) → Child us par v w → g w ≡ h w) → F g v ≡ F h v)
      → (v : ℕ) → 1 ≤ count us v → times F (pos 0) v ≡ F (times F (pos 0)) v
  unfolding times
  fixed F same v p = sym (more (pos 0) v p (R.last v p))
    where
      more : (k v : ℕ) → 1 ≤ count us v → pos v < k → F (times F k) v ≡ times F k v
      more zero v p l = absurd (omega arith)
      more (suc k) v p l = same (F (times F k)) (times F k) v p
          (λ w i. more k w i.site (omega (arith, R.later w i.site, ap pos i.parent)))

  -- sums over all sites below
  pub gather : (f : ℕ → ℕ) → (S : ℕ → ℕ) × ((v : ℕ) → 1 ≤ count us v → S v ≡ f v + children us par v S)
  gather f =
      let F : (ℕ → ℕ) → ℕ → ℕ = λ g v. f v + children us par v g in
      (times F (pos 0), fixed F (λ g h v p e. ap (λ z. f v + z) (children-eq us par v g h e)))
