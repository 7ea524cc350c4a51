-- The links of a tree along an inward order: each site but the last has just one link to a later site, its parent link; the links at a site are that one and
-- the parent links of its children; and every link is the parent link of one site. By induction along the order, the first site's links split off.
use Rattle.std.specs.Prelude.{◌≡◌, ◌≢◌, ◌⊎◌, ℕ, ◌+◌, ◌*◌, ◌-◌, ◌≤◌, ◌<◌}
use Rattle.std.proofs.Math.Path.{refl, sym, ap, ap₂}
use Rattle.std.proofs.Common.{◌∙◌}
use Rattle.std.proofs.Math.Logic.{inl, inr, if_pos, if_neg}
use mathlib.Core.List.{List, [], ◌∷◌}
use native.Mathlib.Omega.{arith}
use Rattle.std.proofs.Math.Decide.{ℕ_discrete}
use Rattle.std.proofs.Math.ListN.{length}
use Rattle.lists.specs.Numbers.{is, sum, count, over}
use Rattle.lists.specs.Sums.{is_same, is-other, same?, product_one, sum-add, sum-eq, sum_ge, sum-single, sum_only}
use Rattle.lists.specs.Places.{over-eq}
use Rattle.model.specs.Flows.{Links, one, two, at, sum_at}
use Rattle.model.specs.Trimming.{unvisited, Inward}
use Rattle.model.specs.WholeLoads.{from, upward, beyond, parent_of}
use Rattle.theory_trees.specs.Trees.{at-le, at-end, at_first, at_second}
use Rattle.theory_trees.specs.Sites.{sum_at-none}
use Rattle.theory_whole.specs.Sums.{over_none, sum-zero}
use Rattle.theory_whole.specs.Rooted.{children}
use Rattle.theory_whole.specs.Order.{Taken, taken-home}

nonzero : (x y : ℕ) → x * y ≡ 1 → 1 ≤ y
nonzero x y e = same? y 0 (λ z. absurd (omega (arith, rw z at e))) (λ z. omega arith)

module _ (ls : Links) where
  upward-head : (u : ℕ) (us : List ℕ) (f : ℕ → ℕ) → upward ls (u ∷ us) u f ≡ sum_at ls u (λ j. unvisited ls (u ∷ us) j * f j)
  unfolding upward from
  upward-head u us f = rw (if_pos (ℕ_discrete u u) refl) refl

  upward_tail : {u v : ℕ} (us : List ℕ) → u ≢ v → (f : ℕ → ℕ) → upward ls (u ∷ us) v f ≡ upward ls us v f
  unfolding upward from
  upward_tail {u} {v} us d f = rw (if_neg (ℕ_discrete u v) d) refl

  -- a site that is not in the list has no parent link
  pub upward_out : (us : List ℕ) (v : ℕ) → count us v ≡ 0 → (f : ℕ → ℕ) → upward ls us v f ≡ 0
  unfolding count
  upward_out [] v z f = unfold upward from unvisited count in sum_at-none ls v (λ j. 0 * 0 * f j) (λ j l a. omega arith)
  upward_out (u ∷ us) v z f =
      let d : u ≢ v = λ e. omega (arith, is_same e) in
      upward_tail us d f ∙ upward_out us v (omega arith) f

  -- ---- the two sites of a link

  module _ (loopless : (i : ℕ) → i < length ls → one ls i ≢ two ls i) where
    pub beyond-at : (v j : ℕ) → at ls v j ≡ 1 → at ls (beyond ls v j) j ≡ 1
    unfolding beyond
    beyond-at v j a = elim (at-end ls j a) [
      | inl e ↦ at_second ls j (omega arith)
      | inr e ↦ at_first ls j (omega arith)
    ]

    pub beyond-not : (v j : ℕ) → j < length ls → at ls v j ≡ 1 → beyond ls v j ≢ v
    unfolding beyond
    beyond-not v j l a q = elim (at-end ls j a) [
      | inl e ↦ loopless j l (omega arith)
      | inr e ↦ loopless j l (omega arith)
    ]

    pub at_both : (u v j : ℕ) → at ls v j ≡ 1 → at ls u j ≡ 1 → u ≢ v → beyond ls v j ≡ u
    unfolding beyond
    at_both u v j a b d = elim (at-end ls j a) [
      | inl e ↦ elim (at-end ls j b) [ inl q ↦ absurd (d (sym q ∙ e)) | inr q ↦ omega arith ]
      | inr e ↦ elim (at-end ls j b) [ inl q ↦ omega arith | inr q ↦ absurd (d (sym q ∙ e)) ]
    ]

    pub at-beyond : (u v j : ℕ) → at ls v j ≡ 1 → u ≢ v → at ls u j ≡ is u (beyond ls v j)
    at-beyond u v j a d = same? u (beyond ls v j)
        (λ e. rw (is_same e) (rw e (beyond-at v j a)))
        (λ n. rw (is-other n) (same? (at ls u j) 1 (λ b. absurd (n (sym (at_both u v j a b d)))) (λ b. omega (arith, at-le ls u j))))

    pub unvisited-at : (us : List ℕ) (v j : ℕ) → at ls v j ≡ 1 → unvisited ls us j ≡ count us v * count us (beyond ls v j)
    unfolding unvisited beyond
    unvisited-at us v j a = elim (at-end ls j a) [
      | inl e ↦ let q : one ls j + two ls j - v ≡ two ls j = omega arith in rw (q, e) refl
      | inr e ↦ let q : one ls j + two ls j - v ≡ one ls j = omega arith in rw (q, e) (omega arith)
    ]

    unvisited-off : (u : ℕ) (us : List ℕ) (j : ℕ) → at ls u j ≡ 0 → unvisited ls (u ∷ us) j ≡ unvisited ls us j
    unfolding unvisited count
    unvisited-off u us j z =
        let a : u ≢ one ls j = λ e. omega (arith, at_first ls j (sym e)) in
        let b : u ≢ two ls j = λ e. omega (arith, at_second ls j (sym e)) in
        rw (is-other a, is-other b) (omega arith)

    -- ---- the parent link

    -- v has no link to later sites, or just one, link e
    pub data Above (us : List ℕ) (v : ℕ) : Type 0 where
      none : ((f : ℕ → ℕ) → upward ls us v f ≡ 0) → ((j : ℕ) → j < length ls → at ls v j * unvisited ls (from us v) j ≡ 0) → Above us v
      some : (e : ℕ) → e < length ls → at ls v e ≡ 1 → unvisited ls (from us v) e ≡ 1 → ((f : ℕ → ℕ) → upward ls us v f ≡ f e)
          → ((j : ℕ) → j < length ls → j ≢ e → at ls v j * unvisited ls (from us v) j ≡ 0) → Above us v

    zero-term : (x y z : ℕ) → x * y ≡ 0 → x * (y * z) ≡ 0
    zero-term x y z e = omega (arith, ap (λ q. q * z) e)

    above-one : (us : List ℕ) (v : ℕ) → sum_at ls v (unvisited ls (from us v)) ≤ 1 → Above us v
    unfolding upward sum_at
    above-one us v h =
        let m = length ls in
        let w = unvisited ls (from us v) in
        same? (sum_at ls v w) 0
        (λ z. let zeros : (j : ℕ) → j < m → at ls v j * w j ≡ 0 = λ j l. omega (arith, sum_ge m j (λ j. at ls v j * w j) l) in
        none (λ f. sum-zero m (λ j. at ls v j * (w j * f j)) (λ j l. zero-term (at ls v j) (w j) (f j) (zeros j l))) zeros)
        (λ z. let r = sum_only m (λ j. at ls v j * w j) (omega arith) in
        let e = r.0 in
        let b = product_one (at ls v e) (w e) (at-le ls v e) r.2 in
        some e r.1 b.0 b.1
        (λ f. omega (
          arith,
          rw (b.0, b.1) at (sum-single m e (λ j. at ls v j * (w j * f j)) r.1 (λ j l d. zero-term (at ls v j) (w j) (f j) (r.3 j l d))),
        ))
        r.3)

    pub from-head : (u : ℕ) (us : List ℕ) → from (u ∷ us) u ≡ u ∷ us
    unfolding from
    from-head u us = if_pos (ℕ_discrete u u) refl (u ∷ us) (from us u)

    pub from_tail : {u v : ℕ} (us : List ℕ) → u ≢ v → from (u ∷ us) v ≡ from us v
    unfolding from
    from_tail {u} {v} us d = if_neg (ℕ_discrete u v) d (u ∷ us) (from us v)

    inward-one : (us : List ℕ) → Inward ls us → (v : ℕ) → 1 ≤ count us v → sum_at ls v (unvisited ls (from us v)) ≤ 1
    unfolding count
    inward-one [] h v p = absurd (omega arith)
    inward-one (u ∷ us) h v p = same? u v
        (λ e. rw (← e, from-head u us) h.1)
        (λ d. rw (from_tail us d) (inward-one us h.2 v (omega (arith, is-other d))))

    pub above : (us : List ℕ) → Inward ls us → (v : ℕ) → 1 ≤ count us v → Above us v
    above us h v p = above-one us v (inward-one us h v p)

    pub single : (us : List ℕ) → Inward ls us → (x : ℕ) → count us x ≤ 1
    unfolding count
    single [] h x = omega arith
    single (v ∷ vs) h x = same? v x
        (λ e. omega (arith, is_same e, rw e at h.0))
        (λ d. omega (arith, is-other d, single vs h.2 x))

    -- the parent is a later site
    parent-later : (u : ℕ) (us : List ℕ) → Inward ls (u ∷ us) → (parent_of ls (u ∷ us) u ≡ 0) ⊎ (1 ≤ count us (parent_of ls (u ∷ us) u))
    unfolding parent_of count
    parent-later u us h = later (above (u ∷ us) h u (omega (arith, is_same {u = u} refl)))
      where
        later : Above (u ∷ us) u → (upward ls (u ∷ us) u (beyond ls u) ≡ 0) ⊎ (1 ≤ count us (upward ls (u ∷ us) u (beyond ls u)))
        later (none z _) = inl (z (beyond ls u))
        later (some e l a w f _) = inr (rw (f (beyond ls u))
            (let q = rw (from-head u us, unvisited-at (u ∷ us) u e a) at w in
            let d = beyond-not u e l a in
            nonzero (count (u ∷ us) u) (count us (beyond ls u e))
            (omega (arith, q, ap (λ z. (is u u + count us u) * (z + count us (beyond ls u e))) (is-other {u = u} {v = beyond ls u e} (λ y. d (sym y)))))))

    pub taken_of : (par : ℕ → ℕ) (us : List ℕ) → Inward ls us → count us 0 ≡ 0 → ((v : ℕ) → 1 ≤ count us v → par v ≡ parent_of ls us v) → Taken par us
    unfolding count parent_of
    taken_of par [] h z e = tt
    taken_of par (u ∷ us) h z e = (
      h.0,
      (λ q. absurd (omega (arith, is_same q))),
      rw (e u (omega (arith, is_same {u = u} refl))) (parent-later u us h),
      taken_of par us h.2 (omega arith) (λ v p. e v (omega arith) ∙ upward_tail us (λ q. omega (arith, h.0, ap (count us) q)) (beyond ls v)),
    )

    -- the links among the sites: those of the first, and those among the others
    first-links : (u : ℕ) (us : List ℕ) → count us u ≡ 0 → (f : ℕ → ℕ)
        → sum (length ls) (λ j. unvisited ls (u ∷ us) j * f j)
        ≡ sum_at ls u (λ j. unvisited ls (u ∷ us) j * f j) + sum (length ls) (λ j. unvisited ls us j * f j)
    unfolding sum_at count
    first-links u us z f = sum-eq (length ls) (λ j. unvisited ls (u ∷ us) j * f j)
        (λ j. at ls u j * (unvisited ls (u ∷ us) j * f j) + unvisited ls us j * f j)
        (λ j l. same? (at ls u j) 1
        (λ a. rw (a, unvisited-at us u j a, z) (omega arith))
        (λ a. let y : at ls u j ≡ 0 = omega (arith, at-le ls u j) in rw (y, unvisited-off u us j y) (omega arith)))
        ∙ sum-add (length ls) (λ j. at ls u j * (unvisited ls (u ∷ us) j * f j)) (λ j. unvisited ls us j * f j)

    -- ---- the links at a site: its parent link, and its children' parent links

    module _ (u v : ℕ) (us : List ℕ) (h : Inward ls (u ∷ us)) (d : u ≢ v) (p : 1 ≤ count us v) where
      -- a link between v and the first site u is not visited
      seen : (j : ℕ) → at ls v j ≡ 1 → at ls u j ≡ 1 → 1 ≤ at ls u j * unvisited ls (from (u ∷ us) u) j
      unfolding count
      seen j a b =
          let own : is u u + count us u ≡ 1 = omega (arith, h.0, is_same {u = u} refl) in
          let there : is u v + count us v ≡ 1 = omega (arith, is-other d, single us h.2 v) in
          rw (from-head u us, unvisited-at (u ∷ us) u j b, at_both v u j b a (λ q. d (sym q)), b, own, there) (omega arith)

      skip : (f : ℕ → ℕ) (j : ℕ) → at ls u j * unvisited ls (from (u ∷ us) u) j ≡ 0 → at ls v j * (at ls u j * f j) ≡ 0
      skip f j z = same? (at ls v j) 1
          (λ a. same? (at ls u j) 1
          (λ b. absurd (omega (arith, seen j a b)))
          (λ b. let y : at ls u j ≡ 0 = omega (arith, at-le ls u j) in rw y (omega arith)))
          (λ a. let y : at ls v j ≡ 0 = omega (arith, at-le ls v j) in rw y (omega arith))

      -- the links between v and u
      between : (f : ℕ → ℕ) → v ≢ 0
          → sum (length ls) (λ j. at ls v j * (at ls u j * f j)) ≡ is (parent_of ls (u ∷ us) u) v * upward ls (u ∷ us) u f
      unfolding parent_of count
      between f n = link (above (u ∷ us) h u (omega (arith, is_same {u = u} refl)))
        where
          link : Above (u ∷ us) u → sum (length ls) (λ j. at ls v j * (at ls u j * f j)) ≡ is (upward ls (u ∷ us) u (beyond ls u)) v * upward ls (u ∷ us) u f
          link (none z w) = rw (z (beyond ls u), is-other {u = 0} {v = v} (λ q. n (sym q)))
              (omega (arith, sum-zero (length ls) (λ j. at ls v j * (at ls u j * f j)) (λ j l. skip f j (w j l))))
          link (some e l a w g o) = rw (g (beyond ls u), g f) (same? (beyond ls u e) v
              (λ q. rw (is_same q) (omega (
                arith,
                rw (a, rw q at (beyond-at u e a)) at (sum-single (length ls) e (λ j. at ls v j * (at ls u j * f j)) l (λ j k r. skip f j (o j k r))),
              )))
              (λ q. rw (is-other q) (omega (
                arith,
                sum-zero (length ls) (λ j. at ls v j * (at ls u j * f j)) (λ j k. same? j e
                    (λ r. let y : at ls v e ≡ 0 = at-beyond v u e a (λ z. d (sym z)) ∙ is-other {u = v} {v = beyond ls u e} (λ z. q (sym z)) in
                    rw (r, y) (omega arith))
                    (λ r. skip f j (o j k r))),
              ))))

      -- the links of v among the sites: those among the sites after u, and those between v and u
      split : (f : ℕ → ℕ)
          → sum_at ls v (λ j. unvisited ls (u ∷ us) j * f j)
          ≡ sum_at ls v (λ j. unvisited ls us j * f j) + sum (length ls) (λ j. at ls v j * (at ls u j * f j))
      unfolding sum_at count
      split f = sum-eq (length ls) (λ j. at ls v j * (unvisited ls (u ∷ us) j * f j))
          (λ j. at ls v j * (unvisited ls us j * f j) + at ls v j * (at ls u j * f j))
          (λ j l. same? (at ls v j) 1
          (λ a. let there : is u v + count us v ≡ 1 = omega (arith, is-other d, single us h.2 v) in
          let there' : count us v ≡ 1 = omega (arith, is-other d) in
          rw (unvisited-at (u ∷ us) v j a, unvisited-at us v j a, at-beyond u v j a d, a, there, there') (omega arith))
          (λ a. let y : at ls v j ≡ 0 = omega (arith, at-le ls v j) in rw y (omega arith)))
          ∙ sum-add (length ls) (λ j. at ls v j * (unvisited ls us j * f j)) (λ j. at ls v j * (at ls u j * f j))

    -- no site of the list has the first for its parent
    first-childless : (u : ℕ) (us : List ℕ) → Inward ls (u ∷ us) → count (u ∷ us) 0 ≡ 0 → (w : ℕ) → 1 ≤ count (u ∷ us) w → parent_of ls (u ∷ us) w ≢ u
    unfolding count
    first-childless u us h z w p e =
        let t = taken_of (parent_of ls (u ∷ us)) (u ∷ us) h z (λ v q. refl) in
        let n : u ≢ 0 = λ q. absurd (omega (arith, is_same q)) in
        same? u w
        (λ q. elim t.2 [
          | inl y ↦ n (sym e ∙ ap (parent_of ls (u ∷ us)) (sym q) ∙ y)
          | inr y ↦ omega (arith, h.0, rw (ap (parent_of ls (u ∷ us)) q ∙ e) at y)
        ])
        (λ q. omega (arith, h.0, rw e at (taken-home (parent_of ls (u ∷ us)) us t.3 w (omega (arith, is-other q)) (λ y. n (sym e ∙ y)))))

    pub children-links : (us : List ℕ) → Inward ls us → count us 0 ≡ 0 → (v : ℕ) → 1 ≤ count us v → (f : ℕ → ℕ)
        → children us (parent_of ls us) v (λ w. upward ls us w f) + upward ls us v f ≡ sum_at ls v (λ j. unvisited ls us j * f j)
    unfolding children over count parent_of
    children-links [] h z v p f = absurd (omega arith)
    children-links (u ∷ us) h z v p f = same? u v
        (λ e. rw (← e) (omega (
          arith,
          upward-head u us f,
          over_none (u ∷ us),
          over-eq (u ∷ us) (λ w. is (parent_of ls (u ∷ us) w) u * upward ls (u ∷ us) w f) (λ w. 0)
              (λ w q. rw (is-other (first-childless u us h z w q)) (omega arith)),
        )))
        (λ d. let q : 1 ≤ count us v = omega (arith, is-other d) in
        let n : v ≢ 0 = λ y. omega (arith, rw y at q) in
        let apart : (w : ℕ) → 1 ≤ count us w → u ≢ w = λ w y r. omega (arith, h.0, ap (count us) r) in
        omega (
          arith,
          children-links us h.2 (omega arith) v q f,
          upward_tail us d f,
          split u v us h d q f,
          between u v us h d q f n,
          over-eq us (λ w. is (parent_of ls (u ∷ us) w) v * upward ls (u ∷ us) w f) (λ w. is (parent_of ls us w) v * upward ls us w f)
              (λ w y. ap₂ (λ a b. is a v * b) (upward_tail us (apart w y) (beyond ls w)) (upward_tail us (apart w y) f)),
        ))

    -- every link is the parent link of one site
    pub all-links : (us : List ℕ) → Inward ls us → (f : ℕ → ℕ) → over us (λ v. upward ls us v f) ≡ sum (length ls) (λ j. unvisited ls us j * f j)
    unfolding over count
    all-links [] h f = sym (sum-zero (length ls) (λ j. unvisited ls [] j * f j) (λ j l. unfold unvisited count in omega arith))
    all-links (u ∷ us) h f =
        let apart : (w : ℕ) → 1 ≤ count us w → u ≢ w = λ w y r. omega (arith, h.0, ap (count us) r) in
        omega (
          arith,
          all-links us h.2 f,
          upward-head u us f,
          over-eq us (λ v. upward ls (u ∷ us) v f) (λ v. upward ls us v f) (λ v p. upward_tail us (apart v p) f),
          first-links u us h.0 f,
        )
