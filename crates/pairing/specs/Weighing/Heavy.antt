-- A heavy link, by the tests of all links at all sites; it is told of just where the capacities are not balanced.
-- Document 01, "Plans, trimmed sizes, end sets" (heavy).
use Rattle.std.specs.Prelude.{◌≡◌, Bool, cond, ◌&&◌, ◌||◌, ◌≢◌, List, [], ◌∷◌, length}
use Rattle.std.proofs.Math.Path.{refl}
use Rattle.std.proofs.Math.Bool.{true, false}
use Prim.Native.Nat.{ℕ, zero, suc, ◌+◌, ◌-◌, ◌≤◌, ◌<◌}
use native.Mathlib.Omega.{arith}
use borrow.Author.Tests.{eq-eqb, ne_eqb, eqb-true, lt-ltb, le-ltb, ltb-true, ltb-false}
use Rattle.std.proofs.Math.Dec.{eqb, ltb}
use Rattle.lists.specs.Numbers.{upfrom}
use Rattle.model.specs.Flows.{Links, Site, sites, at, sum_at, others, Tree}
use Rattle.model.specs.Trimming.{Heavy, Light, Balanced}
use Rattle.lists.specs.Sums.{same?, contradiction}
use Rattle.theory_trees.specs.Sites.{at-site}
use Rattle.theory_trees.specs.Trees.{others-add}

-- some number of a list passes a test
unfoldable pub any : (ℕ → Bool) → List ℕ → Bool
any test [] = false
any test (x ∷ xs) = test x || any test xs

-- link j is at v, and larger than all other links at v together (01: heavy)
unfoldable pub is_heavy : Links → (ℕ → ℕ) → ℕ → ℕ → Bool
is_heavy ls t v j = eqb (at ls v j) 1 && ltb (others ls v j t) (t j)

-- v is an inner site with a heavy link
unfoldable pub heavy_at : Links → (ℕ → ℕ) → (ℕ → ℕ) → ℕ → Bool
heavy_at ls terminal t v = cond (eqb (terminal v) 1) false (any (is_heavy ls t v) (upfrom 0 (length ls)))

-- some inner site has a heavy link (01: a link heavy at some joint)
unfoldable pub heavy_somewhere : Links → ℕ → (ℕ → ℕ) → (ℕ → ℕ) → Bool
heavy_somewhere ls n terminal t = any (heavy_at ls terminal t) (sites n)

-- a link heavy at an inner site (01: a link heavy at some joint)
pub record HeavyLink (ls : Links) (n : ℕ) (terminal t : ℕ → ℕ) : Type 0 where
  pub site : ℕ
  pub link : ℕ
  pub is-site : Site n site
  pub is_inner : terminal site ≢ 1
  pub is-link : link < length ls
  pub is-there : at ls site link ≡ 1
  pub is-heavy : Heavy ls t site link

-- ---- tests of the numbers of an interval

neither : (a b : Bool) → (a || b) ≡ false → (a ≡ false) × (b ≡ false)
neither true b e = contradiction cc
neither false b e = (refl, e)

either : (a b : Bool) → b ≡ true → (a || b) ≡ true
either true b e = refl
either false b e = e

module _ (test : ℕ → Bool) where
  each_fails : (b m : ℕ) → any test (upfrom b m) ≡ false → (x : ℕ) → b ≤ x → x < b + m → test x ≡ false
  unfolding any upfrom
  each_fails b zero e x l h = absurd (omega arith)
  each_fails b (suc m) e x l h =
      let p = neither (test b) (any test (upfrom (suc b) m)) e in
      same? b x (λ q. rw q at p.0) (λ d. each_fails (suc b) m p.1 x (omega arith) (omega arith))

  all_fail : (b m : ℕ) → ((x : ℕ) → b ≤ x → x < b + m → test x ≡ false) → any test (upfrom b m) ≡ false
  unfolding any upfrom
  all_fail b zero h = refl
  all_fail b (suc m) h = rw (h b (omega arith) (omega arith)) (all_fail (suc b) m (λ x l k. h x (omega arith) (omega arith)))

  one_passes : (b m x : ℕ) → b ≤ x → x < b + m → test x ≡ true → any test (upfrom b m) ≡ true
  unfolding any upfrom
  one_passes b zero x l h e = absurd (omega arith)
  one_passes b (suc m) x l h e = same? b x
      (λ q. rw (q, e) refl)
      (λ d. either (test b) (any test (upfrom (suc b) m)) (one_passes (suc b) m x (omega arith) (omega arith) e))

  some_passes : (b m : ℕ) → any test (upfrom b m) ≡ true → (x : ℕ) × (b ≤ x) × (x < b + m) × (test x ≡ true)
  unfolding any upfrom
  some_passes b zero e = contradiction cc
  some_passes b (suc m) e = by (test b) refl e (some_passes (suc b) m)
    where
      by : (u : Bool) → test b ≡ u → (u || any test (upfrom (suc b) m)) ≡ true
          → (any test (upfrom (suc b) m) ≡ true → (x : ℕ) × (suc b ≤ x) × (x < suc b + m) × (test x ≡ true))
          → (x : ℕ) × (b ≤ x) × (x < b + suc m) × (test x ≡ true)
      by true q f more = (b, omega arith, omega arith, q)
      by false q f more = let h = more f in (h.0, omega arith, omega arith, h.3)

module _ (ls : Links) (t : ℕ → ℕ) where
  -- ---- one link at one site

  pub away_is_not_heavy : (v j : ℕ) → at ls v j ≢ 1 → is_heavy ls t v j ≡ false
  unfolding is_heavy
  away_is_not_heavy v j d = rw (ne_eqb (at ls v j) 1 d) refl

  -- at the site by the sum there
  pub heavy_by_sum : (v j : ℕ) → j < length ls → at ls v j ≡ 1 → is_heavy ls t v j ≡ ltb (sum_at ls v t - t j) (t j)
  unfolding is_heavy
  heavy_by_sum v j l a =
      let rest : others ls v j t ≡ sum_at ls v t - t j = omega (arith, others-add ls v j t l a) in
      rw (eq-eqb (at ls v j) 1 a, rest) refl

  not-heavy : (v j : ℕ) → j < length ls → (at ls v j ≡ 1 → t j + t j ≤ sum_at ls v t) → is_heavy ls t v j ≡ false
  not-heavy v j l h = same? (at ls v j) 1
      (λ a. rw (heavy_by_sum v j l a) (le-ltb (sum_at ls v t - t j) (t j) (omega (arith, h a))))
      (away_is_not_heavy v j)

  is_light : (v j : ℕ) → j < length ls → at ls v j ≡ 1 → is_heavy ls t v j ≡ false → t j + t j ≤ sum_at ls v t
  is_light v j l a e = omega (arith, others-add ls v j t l a, ltb-false (sum_at ls v t - t j) (t j) (rw (heavy_by_sum v j l a) at e))

  heavy-is-heavy : (v j : ℕ) → is_heavy ls t v j ≡ true → (at ls v j ≡ 1) × Heavy ls t v j
  unfolding is_heavy
  heavy-is-heavy v j = by (eqb (at ls v j) 1) refl (ltb (others ls v j t) (t j)) refl
    where
      by : (a : Bool) → eqb (at ls v j) 1 ≡ a → (b : Bool) → ltb (others ls v j t) (t j) ≡ b → (a && b) ≡ true → (at ls v j ≡ 1) × Heavy ls t v j
      by true p true q e = (eqb-true (at ls v j) 1 p, ltb-true (others ls v j t) (t j) q)
      by true p false q e = contradiction cc
      by false p b q e = contradiction cc

module _ (ls : Links) (terminal t : ℕ → ℕ) where
  -- ---- all links at one site

  pub terminal_has_no_heavy_link : (v : ℕ) → terminal v ≡ 1 → heavy_at ls terminal t v ≡ false
  unfolding heavy_at
  terminal_has_no_heavy_link v e = rw (eq-eqb (terminal v) 1 e) refl

  inner : (v : ℕ) → terminal v ≢ 1 → heavy_at ls terminal t v ≡ any (is_heavy ls t v) (upfrom 0 (length ls))
  unfolding heavy_at
  inner v d = rw (ne_eqb (terminal v) 1 d) refl

  pub one-is-heavy : (v j : ℕ) → terminal v ≢ 1 → j < length ls → is_heavy ls t v j ≡ true → heavy_at ls terminal t v ≡ true
  one-is-heavy v j d l e = rw (inner v d) (one_passes (is_heavy ls t v) 0 (length ls) j (omega arith) (omega arith) e)

  pub none-is-heavy : (v : ℕ) → terminal v ≢ 1 → ((j : ℕ) → j < length ls → is_heavy ls t v j ≡ false) → heavy_at ls terminal t v ≡ false
  none-is-heavy v d h = rw (inner v d) (all_fail (is_heavy ls t v) 0 (length ls) (λ j l k. h j (omega arith)))

  light_there : (v : ℕ) → terminal v ≢ 1 → heavy_at ls terminal t v ≡ false → Light ls v t
  light_there v d e j l a = is_light ls t v j l a (each_fails (is_heavy ls t v) 0 (length ls) (rw (inner v d) at e) j (omega arith) (omega arith))

  -- ---- all sites

  pub heavy-there : (n v : ℕ) → 1 ≤ v → v ≤ n → heavy_at ls terminal t v ≡ true → heavy_somewhere ls n terminal t ≡ true
  unfolding heavy_somewhere
  heavy-there n v l h e = one_passes (heavy_at ls terminal t) 1 n v l (omega arith) e

  pub heavy_nowhere : (n : ℕ) → ((v : ℕ) → 1 ≤ v → v ≤ n → heavy_at ls terminal t v ≡ false) → heavy_somewhere ls n terminal t ≡ false
  unfolding heavy_somewhere
  heavy_nowhere n h = all_fail (heavy_at ls terminal t) 1 n (λ v l k. h v l (omega arith))

  -- told of no balanced capacities
  pub balanced_has_no_heavy_link : (n : ℕ) → Balanced ls terminal t → heavy_somewhere ls n terminal t ≡ false
  balanced_has_no_heavy_link n b = heavy_nowhere n (λ v l k. same? (terminal v) 1
      (terminal_has_no_heavy_link v)
      (λ d. none-is-heavy v d (λ j h. not-heavy ls t v j h (b v d j h))))

  -- and of all others: a site with a link is a site of the network
  pub no_heavy_link_is_balanced : {n : ℕ} → Tree ls n → heavy_somewhere ls n terminal t ≡ false → Balanced ls terminal t
  unfolding heavy_somewhere
  no_heavy_link_is_balanced {n} T e v d j l a =
      let s = at-site ls T.ends j l a in
      light_there v d (each_fails (heavy_at ls terminal t) 1 n e v s.0 (omega arith)) j l a

  -- ---- a heavy link is one that is told, and one that is told is there

  heavy_at_an_inner_site : (v : ℕ) → heavy_at ls terminal t v ≡ true
      → (terminal v ≢ 1) × ((j : ℕ) × (0 ≤ j) × (j < 0 + length ls) × (is_heavy ls t v j ≡ true))
  heavy_at_an_inner_site v e = same? (terminal v) 1
      (λ m. let none = terminal_has_no_heavy_link v m in contradiction cc)
      (λ d. (d, some_passes (is_heavy ls t v) 0 (length ls) (rw (inner v d) at e)))

  pub heavy_somewhere_is_a_heavy_link : (n : ℕ) → heavy_somewhere ls n terminal t ≡ true → HeavyLink ls n terminal t
  unfolding heavy_somewhere
  heavy_somewhere_is_a_heavy_link n e =
      let v = some_passes (heavy_at ls terminal t) 1 n e in
      let j = heavy_at_an_inner_site v.0 v.3 in
      let h = heavy-is-heavy ls t v.0 j.1.0 j.1.3 in
      record {
        site = v.0;
        link = j.1.0;
        is-site = (v.1, omega arith);
        is_inner = j.0;
        is-link = omega arith;
        is-there = h.0;
        is-heavy = h.1;
      }

  pub a_heavy_link_is_somewhere : (n : ℕ) → HeavyLink ls n terminal t → heavy_somewhere ls n terminal t ≡ true
  unfolding is_heavy
  a_heavy_link_is_somewhere n h = heavy-there n h.site h.is-site.0 h.is-site.1
      (one-is-heavy h.site h.link h.is_inner h.is-link
      (rw (eq-eqb (at ls h.site h.link) 1 h.is-there, lt-ltb (others ls h.site h.link t) (t h.link) h.is-heavy) refl))
