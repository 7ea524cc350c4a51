-- Lists of sites: how often a site stands in one, sums over one, and sums over the links at a site.
-- The one tool: a sum over sites and their links is a sum over links (`exchange`).
use Rattle.std.specs.Prelude.{◌≡◌, ◌≢◌, length}
use Rattle.std.proofs.Common.{sym, ◌∙◌, inl, inr, mul-le-mul_left}
use mathlib.Core.List.{List, [], ◌∷◌}
use Prim.Native.Nat.{ℕ, ◌+◌, ◌-◌, ◌*◌, ◌≤◌, ◌<◌}
use native.Mathlib.Omega.{arith}
use Rattle.std.proofs.Math.Decide.{dec_le}
use Rattle.lists.specs.Numbers.{is, sum, over, count}
use Rattle.model.specs.Flows.{Links, Site, Ends, sites, one, two, at, sum_at, Tree}
use Rattle.lists.specs.Sums.{is_same, is-other, same?, cases, sum-none, sum-add, sum-mul, sum-eq, sum-le}
use Rattle.theory_trees.specs.Trees.{at-le, at-end, at_first, at_second, at_none, loopless}
use Rattle.lists.specs.Places.{count_low, count-high, count_in, over-eq}

-- ---- b, b + 1, .., and zeros

-- ---- the sites, once each

pub sites_once : (n x : ℕ) → Site n x → count (sites n) x ≡ 1
sites_once n x p = count_in 1 n x (omega arith) (omega arith)

pub sites-site : (n x : ℕ) → 1 ≤ count (sites n) x → Site n x
sites-site n x p =
    let low : 1 ≤ x = cases (dec_le 1 x) (λ h. h) (λ h. absurd (omega (arith, count_low 1 n x (omega arith)))) in
    let high : x ≤ n = cases (dec_le x n) (λ h. h) (λ h. absurd (omega (arith, count-high 1 n x (omega arith)))) in
    (low, high)

pub sites-single : (n x : ℕ) → count (sites n) x ≤ 1
sites-single n x = cases (dec_le 1 (count (sites n) x)) (λ h. omega (arith, sites_once n x (sites-site n x h))) (λ h. omega arith)

-- ---- the links at a site

module _ (ls : Links) where
  -- a site with a link is a site of the network
  pub at-site : {n v : ℕ} → Ends ls n → (j : ℕ) → j < length ls → at ls v j ≡ 1 → Site n v
  at-site h j l a = elim (at-end ls j a) [ inl e ↦ rw e at (h j l).0 | inr e ↦ rw e at (h j l).1 ]

  -- terms of links at v, compared there
  pub at_mono : (v i a b : ℕ) → (at ls v i ≡ 1 → a ≤ b) → at ls v i * a ≤ at ls v i * b
  at_mono v i a b h = same? (at ls v i) 1
      (λ o. mul-le-mul_left (at ls v i) (h o))
      (λ d. let z : at ls v i ≡ 0 = omega (arith, at-le ls v i) in rw z (omega arith))

  pub sum_at_mono : (v : ℕ) (f g : ℕ → ℕ) → ((i : ℕ) → i < length ls → at ls v i ≡ 1 → f i ≤ g i) → sum_at ls v f ≤ sum_at ls v g
  unfolding sum_at
  sum_at_mono v f g h = sum-le (length ls) (λ i. at ls v i * f i) (λ i. at ls v i * g i) (λ i l. at_mono v i (f i) (g i) (h i l))

  pub sum_at-same : (v : ℕ) (f g : ℕ → ℕ) → ((i : ℕ) → i < length ls → at ls v i ≡ 1 → f i ≡ g i) → sum_at ls v f ≡ sum_at ls v g
  sum_at-same v f g h = omega (
    arith,
    sum_at_mono v f g (λ i l a. omega (arith, h i l a)),
    sum_at_mono v g f (λ i l a. omega (arith, h i l a)),
  )

  pub sum_at-mul : (v k : ℕ) (f : ℕ → ℕ) → sum_at ls v (λ i. k * f i) ≡ k * sum_at ls v f
  unfolding sum_at
  sum_at-mul v k f = sum-eq (length ls) (λ i. at ls v i * (k * f i)) (λ i. k * (at ls v i * f i)) (λ i l. omega arith)
      ∙ sum-mul (length ls) k (λ i. at ls v i * f i)

  pub sum_at-none : (v : ℕ) (f : ℕ → ℕ) → ((i : ℕ) → i < length ls → at ls v i ≡ 1 → f i ≡ 0) → sum_at ls v f ≡ 0
  sum_at-none v f h = omega (arith, sum_at-same v f (λ i. 0 * f i) (λ i l a. omega (arith, h i l a)), sum_at-mul v 0 f)

  -- ---- sums over sites and their links, as sums over links

  at-is : (i x : ℕ) (g : ℕ → ℕ) → one ls i ≢ two ls i → at ls x i * g x ≡ is x (one ls i) * g (one ls i) + is x (two ls i) * g (two ls i)
  at-is i x g d = same? x (one ls i)
      (λ e. rw (at_first ls i (sym e), is_same e, is-other {u = x} {v = two ls i} (λ z. d (sym e ∙ z)), e) (omega arith))
      (λ p. same? x (two ls i)
      (λ e. rw (at_second ls i (sym e), is_same e, is-other p, e) (omega arith))
      (λ q. rw (at_none ls i (λ e. p (sym e)) (λ e. q (sym e)), is-other p, is-other q) (omega arith)))

  pub exchange : ((i : ℕ) → i < length ls → one ls i ≢ two ls i) → (us : List ℕ) (f : ℕ → ℕ → ℕ)
      → over us (λ x. sum_at ls x (f x)) ≡ sum (length ls) (λ i. count us (one ls i) * f (one ls i) i + count us (two ls i) * f (two ls i) i)
  unfolding over count sum_at
  exchange h [] f = omega (arith, sum-none (length ls), sum-eq (length ls) (λ i. 0 * f (one ls i) i + 0 * f (two ls i) i) (λ i. 0) (λ i l. omega arith))
  exchange h (u ∷ us) f =
      let old : ℕ → ℕ = λ i. count us (one ls i) * f (one ls i) i + count us (two ls i) * f (two ls i) i in
      omega (
        arith,
        exchange h us f,
        sum-add (length ls) (λ i. at ls u i * f u i) old,
        sum-eq (length ls) (λ i. at ls u i * f u i + old i)
            (λ i. (is u (one ls i) + count us (one ls i)) * f (one ls i) i + (is u (two ls i) + count us (two ls i)) * f (two ls i) i)
            (λ i l. omega (arith, at-is i u (λ x. f x i) (h i l))),
      )

-- in a tree: a sum over the sites and their links, link by link
pub by_link : {ls : Links} {n : ℕ} → Tree ls n → (m : ℕ → ℕ) (f : ℕ → ℕ → ℕ)
    → over (sites n) (λ x. m x * sum_at ls x (f x)) ≡ sum (length ls) (λ i. m (one ls i) * f (one ls i) i + m (two ls i) * f (two ls i) i)
by_link {ls} {n} T m f =
    over-eq (sites n) (λ x. m x * sum_at ls x (f x)) (λ x. sum_at ls x (λ i. m x * f x i)) (λ x q. sym (sum_at-mul ls x (m x) (f x)))
    ∙ exchange ls (loopless T) (sites n) (λ x i. m x * f x i)
    ∙ sum-eq (length ls)
    (λ i. count (sites n) (one ls i) * (m (one ls i) * f (one ls i) i) + count (sites n) (two ls i) * (m (two ls i) * f (two ls i) i))
    (λ i. m (one ls i) * f (one ls i) i + m (two ls i) * f (two ls i) i)
    (λ i l. rw (sites_once n (one ls i) (T.ends i l).0, sites_once n (two ls i) (T.ends i l).1) (omega arith))
