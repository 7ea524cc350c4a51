-- Sites in an order in which each stands before its parent: they are rooted, and values are found back along the order, parents first.
use Rattle.std.specs.Prelude.{◌≡◌, ◌≢◌, ◌⊎◌, length}
use Rattle.std.proofs.Math.Path.{refl, sym, ap}
use Rattle.std.proofs.Common.{◌∙◌}
use Rattle.std.proofs.Math.Logic.{inl, inr, ite, if_pos, if_neg}
use mathlib.Core.List.{List, [], ◌∷◌}
use Prim.Native.Nat.{ℕ, suc, ◌≤◌, ◌<◌}
use native.Mathlib.Omega.{arith}
use Rattle.std.proofs.Math.Decide.{ℕ_discrete}
use Rattle.lists.specs.Numbers.{pick, count}
use Rattle.lists.specs.Sums.{pick_same, pick_other, is_same, is-other, same?}
use Rattle.theory_whole.specs.Rooted.{Rooted, Child}

-- the parent of each site is a later site, or 0, which is no site
abbrev pub Taken : (ℕ → ℕ) → List ℕ → Type 0
Taken par [] = Unit {0}
Taken par (v ∷ vs) = (count vs v ≡ 0) × (v ≢ 0) × ((par v ≡ 0) ⊎ (1 ≤ count vs (par v))) × Taken par vs

-- the place of x in the list; the length of the list, if it is not there
unfoldable pub place : List ℕ → ℕ → ℕ
place [] x = 0
place (v ∷ vs) x = pick x v 0 (suc (place vs x))

place_in : (us : List ℕ) (x : ℕ) → 1 ≤ count us x → place us x < length us
unfolding count place
place_in [] x p = absurd (omega arith)
place_in (v ∷ vs) x p = same? x v
    (λ e. rw (pick_same e) (omega arith))
    (λ d. rw (pick_other d) (omega (arith, place_in vs x (omega (arith, is-other {u = v} {v = x} (λ e. d (sym e)))))))

place_out : (us : List ℕ) (x : ℕ) → count us x ≡ 0 → place us x ≡ length us
unfolding count place
place_out [] x p = refl
place_out (v ∷ vs) x p = same? x v
    (λ e. absurd (omega (arith, is_same {u = v} {v = x} (sym e))))
    (λ d. rw (pick_other d) (ap suc (place_out vs x (omega arith))))

module _ (par : ℕ → ℕ) where
  taken_once : (us : List ℕ) → Taken par us → (x : ℕ) → count us x ≤ 1
  unfolding count
  taken_once [] h x = omega arith
  taken_once (v ∷ vs) h x = same? v x
      (λ e. omega (arith, is_same e, rw e at h.0))
      (λ d. omega (arith, is-other d, taken_once vs h.3 x))

  taken_free : (us : List ℕ) → Taken par us → count us 0 ≡ 0
  unfolding count
  taken_free [] h = refl
  taken_free (v ∷ vs) h = omega (arith, is-other h.1, taken_free vs h.3)

  pub taken-home : (us : List ℕ) → Taken par us → (w : ℕ) → 1 ≤ count us w → par w ≢ 0 → 1 ≤ count us (par w)
  unfolding count
  taken-home [] h w p d = absurd (omega arith)
  taken-home (v ∷ vs) h w p d = same? v w
      (λ e. elim h.2 [ inl z ↦ absurd (d (rw e at z)) | inr q ↦ omega (arith, rw e at q) ])
      (λ n. omega (arith, taken-home vs h.3 w (omega (arith, is-other n)) d))

  taken-later : (us : List ℕ) → Taken par us → (w : ℕ) → 1 ≤ count us w → place us w < place us (par w)
  unfolding count place
  taken-later [] h w p = absurd (omega arith)
  taken-later (v ∷ vs) h w p = same? w v
      (λ e. rw (pick_same e) (same? (par w) v
      (λ z. absurd (elim h.2 [ inl y ↦ h.1 (sym z ∙ ap par e ∙ y) | inr q ↦ omega (arith, h.0, rw (sym (ap par e) ∙ z) at q) ]))
      (λ z. rw (pick_other z) (omega arith))))
      (λ d. let q : 1 ≤ count vs w = omega (arith, is-other {u = v} {v = w} (λ e. d (sym e))) in
      rw (pick_other d) (same? (par w) v
      (λ z. absurd (omega (arith, h.0, rw z at (taken-home vs h.3 w q (λ y. h.1 (sym z ∙ y))))))
      (λ z. rw (pick_other z) (omega (arith, taken-later vs h.3 w q)))))

  -- so the sites are rooted
  pub rooted : (us : List ℕ) → Taken par us → Rooted us par (place us)
  rooted us h = record {
    once = taken_once us h;
    root_free = taken_free us h;
    home = taken-home us h;
    later = taken-later us h;
    last = λ w p. omega (arith, place_in us w p, place_out us 0 (taken_free us h));
  }

-- ---- what the two ways along the order are made over

module _ (us : List ℕ) (par c term : ℕ → ℕ) where
  -- every site but the terminals has a child, and the roots have no link upward
  pub record Plain : Type 0 where
    pub taken : Taken par us
    pub joint : (v : ℕ) → 1 ≤ count us v → term v ≢ 1 → (w : ℕ) × Child us par v w
    pub bare : (v : ℕ) → 1 ≤ count us v → par v ≡ 0 → c v ≡ 0

-- ---- values found back along the order, each from that of the parent

module _ {X : Type 0} (F : (ℕ → X) → ℕ → X) where
  unfoldable pub back : List ℕ → (ℕ → X) → ℕ → X
  back [] g = g
  back (v ∷ vs) g = let h = back vs g in let r = F h v in λ x. ite (ℕ_discrete x v) r (h x)

  pub back_out : (vs : List ℕ) (g : ℕ → X) (x : ℕ) → count vs x ≡ 0 → back vs g x ≡ g x
  unfolding back count
  back_out [] g x p = refl
  back_out (v ∷ vs) g x p =
      let d : x ≢ v = λ e. omega (arith, is_same {u = v} {v = x} (sym e)) in
      if_neg (ℕ_discrete x v) d (F (back vs g) v) (back vs g x) ∙ back_out vs g x (omega arith)

  module _ (par : ℕ → ℕ) where
    -- F g v takes g at the parent of v only
    pub back_fixed : ((g h : ℕ → X) (v : ℕ) → g (par v) ≡ h (par v) → F g v ≡ F h v)
        → (vs : List ℕ) → Taken par vs → (g : ℕ → X) (v : ℕ) → 1 ≤ count vs v → F (back vs g) v ≡ back vs g v
    unfolding back count
    back_fixed same [] h g v p = absurd (omega arith)
    back_fixed same (u ∷ vs) h g v p =
        let old = back vs g in
        let new : ℕ → X = λ x. ite (ℕ_discrete x u) (F old u) (old x) in
        let keeps : (w : ℕ) → par w ≢ u → new (par w) ≡ old (par w) = λ w d. if_neg (ℕ_discrete (par w) u) d (F old u) (old (par w)) in
        same? v u
        (λ e. rw e (same new old u (keeps u (λ z. elim h.2 [ inl q ↦ h.1 (sym z ∙ q) | inr q ↦ omega (arith, h.0, rw z at q) ]))
        ∙ sym (if_pos (ℕ_discrete u u) refl (F old u) (old u))))
        (λ d. let q : 1 ≤ count vs v = omega (arith, is-other {u = u} {v = v} (λ e. d (sym e))) in
        same new old v (keeps v (λ z. absurd (omega (arith, h.0, rw z at (taken-home par vs h.3 v q (λ y. h.1 (sym z ∙ y)))))))
        ∙ back_fixed same vs h.3 g v q
        ∙ sym (if_neg (ℕ_discrete v u) d (F old u) (old v)))
