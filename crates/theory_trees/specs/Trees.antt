-- Networks that are trees: n sites, joined by n - 1 links. Each link separates two sides; of the links at a site just one leads to any other site.
-- By `agree`: what the two sites of every link share, all sites share.
use Rattle.std.specs.Prelude.{◌≡◌, ◌≢◌, ◌↔◌, ◌⊎◌, ℕ, zero, suc, ◌+◌, ◌*◌, ◌≤◌, ◌<◌, [], ◌∷◌}
use Rattle.std.proofs.Math.Path.{refl, sym, ap}
use Rattle.std.proofs.Common.{◌∙◌, inl, inr}
use native.Mathlib.Omega.{arith}
use Rattle.lists.specs.Sums.{pick_same, pick_other, pick_cases, pick_const, same?, is_same, is-other, is_le, differ_same, differ-other, differ-le, differ_comm}
use Rattle.lists.specs.Sums.{differ_triangle, differ_triple, product_one, sum-none, sum-add, sum-mul, sum-eq, sum_eq_but, sum_only}
use Rattle.std.proofs.Math.ListN.{length}
use Rattle.lists.specs.Numbers.{pick, is, differ}
use Rattle.model.specs.Flows.{Links, Site, one, two, at, sum_at, others, relabel, label, Tree, without, side, separates}
use Rattle.theory_trees.specs.Labels.{relabel-both, linked, agree, whole-links}

-- ---- the links without one of them

pub length_without : (ls : Links) (j : ℕ) → j < length ls → suc (length (without j ls)) ≡ length ls
unfolding without
length_without [] j l = omega arith
length_without (a ∷ ls) zero l = refl
length_without (a ∷ ls) (suc j) l = ap suc (length_without ls j (omega arith))

-- the other links join their sites
pub linked-without : (ls : Links) (j i : ℕ) → i < length ls → i ≢ j → label (without j ls) (one ls i) ≡ label (without j ls) (two ls i)
unfolding without label
linked-without [] j i l d = omega arith
linked-without (a ∷ ls) zero zero l d = absurd (d refl)
linked-without (a ∷ ls) zero (suc i) l d = linked ls i (omega arith)
linked-without (a ∷ ls) (suc j) zero l d = relabel-both (label (without j ls) a.0) (label (without j ls) a.1)
linked-without (a ∷ ls) (suc j) (suc i) l d =
    ap (relabel (label (without j ls) a.0) (label (without j ls) a.1)) (linked-without ls j i (omega arith) (λ e. d (ap suc e)))

-- ---- the two sides of a link

module _ (ls : Links) where
  pub separates-one : (j x y : ℕ) → (separates ls j x y ≡ 1) ↔ (side ls j x ≢ side ls j y)
  unfolding separates
  separates-one j x y = (λ c e. omega (arith, differ_same e), λ d. differ-other d)

  pub separates-same : (j x y : ℕ) → side ls j x ≡ side ls j y → separates ls j x y ≡ 0
  unfolding separates
  separates-same j x y e = differ_same e

  pub separates-le : (j x y : ℕ) → separates ls j x y ≤ 1
  unfolding separates
  separates-le j x y = differ-le (side ls j x) (side ls j y)

  pub separates_comm : (j x y : ℕ) → separates ls j x y ≡ separates ls j y x
  unfolding separates
  separates_comm j x y = differ_comm (side ls j x) (side ls j y)

  pub separates_self : (j x : ℕ) → separates ls j x x ≡ 0
  unfolding separates
  separates_self j x = differ_same refl

  -- any other link has both sites on one side
  pub side-link : (i j : ℕ) → i < length ls → i ≢ j → side ls j (one ls i) ≡ side ls j (two ls i)
  unfolding side
  side-link i j l d = linked-without ls j i l d

module _ {ls : Links} {n : ℕ} (T : Tree ls n) where
  -- what is equal at the ends of each link is equal at all sites
  pub all_agree : (f : ℕ → ℕ) → ((i : ℕ) → i < length ls → f (one ls i) ≡ f (two ls i)) → (x y : ℕ) → Site n x → Site n y → f x ≡ f y
  all_agree f h x y p q = agree ls f h x y (T.whole x p ∙ sym (T.whole y q))

  -- the ends of a link are on its two sides: were they on one, the other links, too few, would join all sites
  pub bridge : (j : ℕ) → j < length ls → side ls j (one ls j) ≢ side ls j (two ls j)
  unfolding side
  bridge j l e =
      let one_side : (i : ℕ) → i < length ls → side ls j (one ls i) ≡ side ls j (two ls i) = λ i k. same? i j (λ q. rw q e) (λ d. side-link ls i j k d) in
      let joins : (x : ℕ) → Site n x → side ls j x ≡ side ls j 1 = λ x p. all_agree (side ls j) one_side x 1 p (omega arith) in
      omega (arith, length_without ls j l, whole-links (without j ls) n (side ls j 1) joins)

  -- so no link joins a site to itself
  pub loopless : (i : ℕ) → i < length ls → one ls i ≢ two ls i
  loopless i l e = bridge i l (ap (side ls i) e)

  -- and every site is on one of the two sides
  pub two_sides : (j x : ℕ) → j < length ls → Site n x → (side ls j x ≡ side ls j (one ls j)) ⊎ (side ls j x ≡ side ls j (two ls j))
  two_sides j x l p =
      let S = side ls j (one ls j) in
      let R = side ls j (two ls j) in
      let first : pick S R S S ≡ S = pick_const S R S in
      pick_cases (λ r. r ≡ pick S R S S → (side ls j x ≡ S) ⊎ (side ls j x ≡ R)) (side ls j x) R S (side ls j x)
      (λ e _. inr e)
      (λ d e. inl (e ∙ first))
      (all_agree (λ y. pick (side ls j y) R S (side ls j y))
      (λ i k. same? i j (λ q. rw q (first ∙ sym (pick_same refl S R))) (λ d. ap (λ u. pick u R S u) (side-link ls i j k d)))
      x (one ls j) p (T.ends j l).0)

  -- so of three sites link j leaves two together
  pub separates_triple : (j x y z : ℕ) → j < length ls → Site n x → Site n y → Site n z → separates ls j x y + separates ls j y z + separates ls j x z ≤ 2
  unfolding separates
  separates_triple j x y z l p q r = differ_triple (side ls j x) (side ls j y) (side ls j z) (side ls j (one ls j)) (side ls j (two ls j))
      (two_sides j x l p) (two_sides j y l q) (two_sides j z l r)

  -- link i separates exactly one of its sites from r
  pub far-one : (i r : ℕ) → i < length ls → Site n r → separates ls i (one ls i) r + separates ls i (two ls i) r ≡ 1
  unfolding separates
  far-one i r l p =
      let A = side ls i (one ls i) in
      let B = side ls i (two ls i) in
      let R = side ls i r in
      omega (
        arith,
        differ-other (bridge i l),
        differ_triangle A R B,
        differ_comm R B,
        separates_triple i (one ls i) (two ls i) r l (T.ends i l).0 (T.ends i l).1 p,
      )

-- ---- the links at a site

module _ (ls : Links) where
  pub at_first : {v : ℕ} (j : ℕ) → one ls j ≡ v → at ls v j ≡ 1
  unfolding at
  at_first {v} j e = pick_same e 1 (is (two ls j) v)

  pub at_second : {v : ℕ} (j : ℕ) → two ls j ≡ v → at ls v j ≡ 1
  unfolding at
  at_second {v} j e = rw (is_same e) (pick_const (one ls j) v 1)

  pub at_none : {v : ℕ} (j : ℕ) → one ls j ≢ v → two ls j ≢ v → at ls v j ≡ 0
  unfolding at
  at_none {v} j d e = pick_other d 1 (is (two ls j) v) ∙ is-other e

  pub at-le : (v j : ℕ) → at ls v j ≤ 1
  unfolding at
  at-le v j = pick_cases (λ r. r ≤ 1) (one ls j) v 1 (is (two ls j) v) (λ e. omega arith) (λ d. is_le (two ls j) v)

  pub at-end : {v : ℕ} (j : ℕ) → at ls v j ≡ 1 → (one ls j ≡ v) ⊎ (two ls j ≡ v)
  at-end {v} j a = same? (one ls j) v inl (λ d. same? (two ls j) v inr (λ e. absurd (omega (arith, at_none j d e))))

  pub sum_at_linear : (v w : ℕ) (f g : ℕ → ℕ) → sum_at ls v (λ i. w * f i + g i) ≡ w * sum_at ls v f + sum_at ls v g
  unfolding sum_at
  sum_at_linear v w f g = omega (
    arith,
    sum-eq (length ls) (λ i. at ls v i * (w * f i + g i)) (λ i. w * (at ls v i * f i) + at ls v i * g i) (λ i l. omega arith),
    sum-add (length ls) (λ i. w * (at ls v i * f i)) (λ i. at ls v i * g i),
    sum-mul (length ls) w (λ i. at ls v i * f i),
  )

  -- all the links at v: the others and link j
  pub others-add : (v j : ℕ) (f : ℕ → ℕ) → j < length ls → at ls v j ≡ 1 → others ls v j f + f j ≡ sum_at ls v f
  unfolding others sum_at
  others-add v j f l a = omega (
    arith,
    rw (pick_same {u = j} refl, a) at (sum_eq_but (length ls) j (λ i. pick i j 0 (at ls v i * f i)) (λ i. at ls v i * f i) l
        (λ i k d. pick_other d 0 (at ls v i * f i))),
  )

module _ {ls : Links} {n : ℕ} (T : Tree ls n) (v : ℕ) where
  -- how many links at v separate x from v, and one more where x is v: the same at the two ends of each link
  away : ℕ → ℕ
  away x = sum_at ls v (λ i. separates ls i v x) + is x v

  away_link : (i : ℕ) → i < length ls → away (one ls i) ≡ away (two ls i)
  unfolding away sum_at separates
  away_link i l =
      let a = one ls i in
      let b = two ls i in
      let rest = sum_eq_but (length ls) i (λ j. at ls v j * separates ls j v a) (λ j. at ls v j * separates ls j v b) l
      (λ j k d. ap (λ u. at ls v j * differ (side ls j v) u) (side-link ls i j l (λ e. d (sym e)))) in
      same? a v
      (λ e. omega (
        arith,
        rw (at_first ls i e) at rest,
        is_same e,
        is-other {u = b} {v = v} (λ z. bridge T i l (ap (side ls i) (e ∙ sym z))),
        differ_same (ap (side ls i) (sym e)),
        differ-other {u = side ls i v} {v = side ls i b} (λ z. bridge T i l (ap (side ls i) e ∙ z)),
      ))
      (λ d. same? b v
      (λ e. omega (
        arith,
        rw (at_second ls i e) at rest,
        is_same e,
        is-other d,
        differ_same (ap (side ls i) (sym e)),
        differ-other {u = side ls i v} {v = side ls i a} (λ z. bridge T i l (sym z ∙ ap (side ls i) (sym e))),
      ))
      (λ e. omega (arith, rw (at_none ls i d e) at rest, is-other d, is-other e)))

  -- no link at v separates v from itself, and exactly one separates it from any other site
  pub local : (x : ℕ) → Site n v → Site n x → sum_at ls v (λ i. separates ls i v x) + is x v ≡ 1
  unfolding away sum_at separates
  local x p q = all_agree T away away_link x v q p
      ∙ omega (
        arith,
        is_same {u = v} refl,
        sum-none (length ls),
        sum-eq (length ls) (λ i. at ls v i * separates ls i v v) (λ i. 0) (λ i l. rw (differ_same {u = side ls i v} refl) (omega arith)),
      )

  -- that one link
  pub local_one : (x : ℕ) → Site n v → Site n x → x ≢ v
      → (j : ℕ) × (j < length ls) × (at ls v j ≡ 1) × (separates ls j v x ≡ 1) × ((i : ℕ) → i < length ls → at ls v i ≡ 1 → separates ls i v x ≡ 1 → i ≡ j)
  unfolding sum_at
  local_one x p q d =
      let r = sum_only (length ls) (λ i. at ls v i * separates ls i v x) (omega (arith, local x p q, is-other d)) in
      let b = product_one (at ls v r.0) (separates ls r.0 v x) (at-le ls v r.0) r.2 in
      (r.0, r.1, b.0, b.1, λ i l a c. same? i r.0 (λ e. e) (λ e. absurd (omega (arith, rw (a, c) at (r.3 i l e)))))
