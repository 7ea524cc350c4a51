-- The decision whether two regions share one link tells it: by the names, which are different within a region, and since two sites of a tree have at most one
-- link between them.
use Rattle.std.specs.Prelude.{◌≡◌, ◌≢◌, ◌↔◌, ◌⊎◌}
use Rattle.std.proofs.Math.Path.{refl, sym}
use Rattle.std.proofs.Common.{ap, ◌∙◌}
use Rattle.std.proofs.Math.Logic.{inl, inr}
use Prim.Native.Nat.{ℕ, zero, suc, ◌+◌, ◌-◌, ◌*◌, ◌≤◌, ◌<◌}
use native.Mathlib.Omega.{arith}
use Rattle.std.proofs.Math.ListN.{length}
use Rattle.lists.specs.Numbers.{differ}
use Rattle.lists.specs.Sums.{same?, pick_same, pick_other, differ-other, differ-le}
use Rattle.lists.specs.Sums.{product_one}
use Rattle.model.specs.Flows.{Links, Site, Tree, one, two, at, side}
use Rattle.theory_trees.specs.Trees.{at-end, at-le, bridge, loopless, side-link}
use Rattle.theory_walk.specs.Regions.{differ-one}
use Rattle.theory_regions.specs.Regions.{Region}
use Rattle.theory_regions.specs.JoinedTree.{Between, Border}
use Rattle.theory_regions.specs.Sharing.{Named, SharesOneLink, Partners, first_from, Sharing, apart, sharing, shared_first, shared_second}
use Rattle.theory_regions.specs.Meeting.{at_both, link-sites}
use Rattle.theory_regions.specs.TwoRegions.{Neighbours}

-- ---- of trees and sums

-- two links between the same two sites are one link
pub no_double_link : {ls : Links} {n : ℕ} → Tree ls n → (i j x y : ℕ) → i < length ls → j < length ls → Between ls i x y → Between ls j x y → i ≡ j
no_double_link {ls} T i j x y l k f g = same? i j
    (λ e. e)
    (λ d.
    let together : side ls j x ≡ side ls j y = elim f [
      | inl h ↦ rw (h.0, h.1) at (side-link ls i j l d)
      | inr h ↦ sym (rw (h.0, h.1) at (side-link ls i j l d))
    ] in
    absurd (bridge T j k (elim g [ inl h ↦ rw (h.0, h.1) together | inr h ↦ rw (h.0, h.1) (sym together) ])))

-- a link at two different sites joins them
pub joins-both : (ls : Links) (k x y : ℕ) → x ≢ y → at ls x k ≡ 1 → at ls y k ≡ 1 → Between ls k x y
joins-both ls k x y d f g = elim (at-end ls k f) [
  | inl h ↦ elim (at-end ls k g) [ inl i ↦ absurd (d (sym h ∙ i)) | inr i ↦ inl (h, i) ]
  | inr h ↦ elim (at-end ls k g) [ inl i ↦ inr (i, h) | inr i ↦ absurd (d (sym h ∙ i)) ]
]

-- the first place
pub first_found : (test : ℕ → ℕ) (i m : ℕ) → let r = first_from test i m in
    ((r ≡ i + m) × ((j : ℕ) → i ≤ j → j < i + m → test j ≢ 1)) ⊎ ((r < i + m) × (test r ≡ 1))
unfolding first_from
first_found test i zero = inl (omega arith, λ j l h. absurd (omega arith))
first_found test i (suc m) = same? (test i) 1
    (λ e. rw (pick_same e i (first_from test (suc i) m)) (inr (omega arith, e)))
    (λ d. rw (pick_other d i (first_from test (suc i) m)) (elim (first_found test (suc i) m) [
      | inl h ↦ inl (omega (arith, h.0), λ j l k. same? j i (λ z. rw z d) (λ z. h.1 j (omega arith) (omega arith)))
      | inr h ↦ inr (omega (arith, h.0), h.1)
    ]))

pub one_is_found : (test : ℕ → ℕ) (m : ℕ) → first_from test 0 m < m → test (first_from test 0 m) ≡ 1
one_is_found test m l = elim (first_found test 0 m) [ inl h ↦ absurd (omega (arith, h.0)) | inr h ↦ h.1 ]

-- named regions that have what is asked are neighbours
pub what_shares_one_link_is_neighbours : {N : Type 0} {a b : Region} {name₁ name₂ : ℕ → N} {p q : Border} → Named a name₁ → Named b name₂
    → SharesOneLink a b name₁ name₂ p q → Neighbours a p b q
what_shares_one_link_is_neighbours A B M = record {
  first = record { tree = A.tree; sized = A.sized; here = M.first-link; between = M.first-joins; single = M.first-single };
  second = record { tree = B.tree; sized = B.sized; here = M.second-link; between = M.second-joins; single = M.second-single };
  first_plain = M.first_plain;
  second_plain = M.second_plain;
  one_size = M.one_size;
}

-- what a decision tells
pub data Tells {N : Type 0} (a b : Region) (name₁ name₂ : ℕ → N) : Sharing → Type 0 where
  tells_none : ((p q : Border) → ¬ (SharesOneLink a b name₁ name₂ p q)) → Tells a b name₁ name₂ apart
  tells-some : {p q : Border} → SharesOneLink a b name₁ name₂ p q → Tells a b name₁ name₂ (sharing p q)

module _ {N : Type 0} {a b : Region} {name₁ name₂ : ℕ → N} (A : Named a name₁) (B : Named b name₂) (partner : ℕ → ℕ)
    (P : Partners a.sites b.sites name₁ name₂ partner) where
  pub partnered : (x : ℕ) → Site a.sites x → partner x ≢ 0 → Site b.sites (partner x) × (name₁ x ≡ name₂ (partner x))
  partnered x s d = elim (P x s) [ inl h ↦ h | inr h ↦ absurd (d h.0) ]

  pub partner-is : (x y : ℕ) → Site a.sites x → Site b.sites y → name₁ x ≡ name₂ y → partner x ≡ y
  partner-is x y s r e = elim (P x s) [ inl h ↦ B.different (partner x) y h.0 r (sym h.1 ∙ e) | inr h ↦ absurd (h.1 y r e) ]

  -- link j of the first region joins x and y, link k of the second their partners
  pub record Partnered (j k x y : ℕ) : Type 0 where
    pub here : j < length a.links
    pub there : k < length b.links
    pub between : Between a.links j x y
    pub first : partner x ≢ 0
    pub second : partner y ≢ 0
    pub first-there : at b.links (partner x) k ≡ 1
    pub second-there : at b.links (partner y) k ≡ 1

  -- ---- what holds is decided
  module _ {p q : Border} (M : SharesOneLink a b name₁ name₂ p q) where
    pub sites-here : Site a.sites p.near × Site a.sites p.far × (p.near ≢ p.far)
    sites-here = link-sites A.tree M.first-link M.first-joins

    pub sites-there : Site b.sites q.near × Site b.sites q.far × (q.near ≢ q.far)
    sites-there = link-sites B.tree M.second-link M.second-joins

    pub near-partner : partner p.near ≡ q.far
    near-partner = partner-is p.near q.far sites-here.0 sites-there.1 M.near-far

    pub far-partner : partner p.far ≡ q.near
    far-partner = partner-is p.far q.near sites-here.1 sites-there.0 M.far-near

    -- a site with a partner is near or far
    pub near-or-far : (x : ℕ) → Site a.sites x → partner x ≢ 0 → (x ≡ p.near) ⊎ (x ≡ p.far)
    near-or-far x s d = let h = partnered x s d in M.no_other x (partner x) s h.0 h.1

    -- the links found are the shared ones
    pub the_first_is_found : shared_first a b partner ≡ p.shared
    unfolding shared_first
    the_first_is_found =
        let ls = a.links in
        let test : ℕ → ℕ = λ i. differ (partner (one ls i)) 0 * differ (partner (two ls i)) 0 in
        let some₁ : differ (partner p.near) 0 ≡ 1 = rw near-partner (differ-other {u = q.far} {v = 0} (λ e. omega (arith, sites-there))) in
        let some₂ : differ (partner p.far) 0 ≡ 1 = rw far-partner (differ-other {u = q.near} {v = 0} (λ e. omega (arith, sites-there))) in
        let hit : test p.shared ≡ 1 = elim M.first-joins [
          | inl h ↦ rw (h.0, h.1, some₁, some₂) refl
          | inr h ↦ rw (h.0, h.1, some₁, some₂) refl
        ] in
        elim (first_found test 0 (length ls)) [
          | inl h ↦ absurd (h.1 p.shared (omega arith) (omega (arith, M.first-link)) hit)
          | inr h ↦
              let i = first_from test 0 (length ls) in
              let l : i < length ls = omega (arith, h.0) in
              let s = A.tree.ends i l in
              let both = product_one (differ (partner (one ls i)) 0) (differ (partner (two ls i)) 0) (differ-le (partner (one ls i)) 0) h.1 in
              let d = loopless A.tree i l in
              no_double_link A.tree i p.shared p.near p.far l M.first-link (elim (near-or-far (one ls i) s.0 (differ-one both.0)) [
                | inl e ↦ elim (near-or-far (two ls i) s.1 (differ-one both.1)) [ inl g ↦ absurd (d (e ∙ sym g)) | inr g ↦ inl (e, g) ]
                | inr e ↦ elim (near-or-far (two ls i) s.1 (differ-one both.1)) [ inl g ↦ inr (e, g) | inr g ↦ absurd (d (e ∙ sym g)) ]
              ]) M.first-joins
        ]

    the_second_is_found : shared_second a b partner p.shared ≡ q.shared
    unfolding shared_second
    the_second_is_found =
        let ls = a.links in
        let ks = b.links in
        let test : ℕ → ℕ = λ i. at ks (partner (one ls p.shared)) i * at ks (partner (two ls p.shared)) i in
        let tests : (i : ℕ) → (test i ≡ 1) ↔ ((at ks q.near i ≡ 1) × (at ks q.far i ≡ 1)) = λ i. elim M.first-joins [
          | inl h ↦ rw (h.0, h.1, near-partner, far-partner) (
            λ e. let r = product_one (at ks q.far i) (at ks q.near i) (at-le ks q.far i) e in (r.1, r.0),
            λ e. rw (e.0, e.1) refl,
          )
          | inr h ↦ rw (h.0, h.1, near-partner, far-partner) (
            product_one (at ks q.near i) (at ks q.far i) (at-le ks q.near i),
            λ e. rw (e.0, e.1) refl,
          )
        ] in
        elim (first_found test 0 (length ks)) [
          | inl h ↦ absurd (h.1 q.shared (omega arith) (omega (arith, M.second-link)) ((tests q.shared).1 (at_both ks q.shared M.second-joins)))
          | inr h ↦
              let i = first_from test 0 (length ks) in
              let r = (tests i).0 h.1 in
              no_double_link B.tree i q.shared q.near q.far (omega (arith, h.0)) M.second-link
              (joins-both ks i q.near q.far sites-there.2 r.0 r.1) M.second-joins
        ]

    pub the-second-is-found-for-it : shared_second a b partner (shared_first a b partner) ≡ q.shared
    the-second-is-found-for-it = ap (shared_second a b partner) the_first_is_found ∙ the_second_is_found

  -- which link is shared is no choice, nor is what the regions are given; where both choices of the far sites have what is asked, either may be taken
  pub the_shared_link_is_no_choice : {p q p' q' : Border} → SharesOneLink a b name₁ name₂ p q → SharesOneLink a b name₁ name₂ p' q'
      → (p.shared ≡ p'.shared) × (q.shared ≡ q'.shared)
  the_shared_link_is_no_choice M M' =
      (sym (the_first_is_found M) ∙ the_first_is_found M', sym (the-second-is-found-for-it M) ∙ the-second-is-found-for-it M')
