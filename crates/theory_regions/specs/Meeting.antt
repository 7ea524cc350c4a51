-- Two regions in their joined tree: every site but the far one has there just the links that it has here. So it is an end there if it is one here, a sum
-- over its links is the same, and what is balanced in the joined tree is balanced in each region. What is shown of the first region holds of the second,
-- turned round.
use Rattle.std.specs.Prelude.{◌≡◌, refl, ◌≢◌, ◌↔◌, ◌⊎◌}
use Rattle.std.proofs.Math.Path.{sym, ap}
use Rattle.std.proofs.Common.{◌∙◌, inl, inr, arith}
use Rattle.std.proofs.Math.Logic.{⊎_swap}
use Prim.Native.Nat.{ℕ, ◌*◌, ◌<◌}
use Rattle.std.proofs.Math.ListN.{length}
use Rattle.lists.specs.Numbers.{is}
use Rattle.lists.specs.Sums.{same?, sum-eq}
use Rattle.model.specs.Flows.{Links, Site, Tree, one, two, at, sum_at, leaf, end_at}
use Rattle.model.specs.Trimming.{Light, Balanced}
use Rattle.theory_trees.specs.Trees.{at-le, at_first, at_second, at_none, at-end, loopless}
use Rattle.theory_trees.specs.Sites.{at-site}
use Rattle.theory_trees.proofs.Leaves.{leaf_has_one_link}
use Rattle.theory_trees.proofs.Ends.{ends_are_told, a_leaf_is_an_end}
use Rattle.theory_regions.specs.Regions.{Region, ends_in}
use Rattle.theory_regions.specs.JoinedTree.{Between, Border, Bordered, Lies, Joins}
use Rattle.theory_regions.specs.Carried.{hits, hits-one, sum_carried}

-- a link is at both its sites
pub at_both : (ls : Links) (j : ℕ) {x y : ℕ} → Between ls j x y → (at ls x j ≡ 1) × (at ls y j ≡ 1)
at_both ls j (inl h) = (at_first ls j h.0, at_second ls j h.1)
at_both ls j (inr h) = (at_second ls j h.1, at_first ls j h.0)

-- the sites of a link of a tree
pub link-sites : {ls : Links} {n : ℕ} → Tree ls n → {j x y : ℕ} → j < length ls → Between ls j x y → Site n x × Site n y × (x ≢ y)
link-sites T {j} l (inl h) = (rw h.0 at (T.ends j l).0, rw h.1 at (T.ends j l).1, (λ e. loopless T j l (h.0 ∙ e ∙ sym h.1)))
link-sites T {j} l (inr h) = (rw h.1 at (T.ends j l).1, rw h.0 at (T.ends j l).0, (λ e. loopless T j l (h.0 ∙ sym e ∙ sym h.1)))

-- ---- a region with its border

module _ {a : Region} {p : Border} (A : Bordered a p) where
  pub near-site : Site a.sites p.near
  near-site = (link-sites A.tree A.here A.between).0

  pub far-site : Site a.sites p.far
  far-site = (link-sites A.tree A.here A.between).1

  pub near-is-not-far : p.near ≢ p.far
  near-is-not-far = (link-sites A.tree A.here A.between).2

  pub shared_at_far : at a.links p.far p.shared ≡ 1
  shared_at_far = (at_both a.links p.shared A.between).1

  -- the far site has no link but the shared one, and is an end
  pub far_has_just_the_shared_link : (i : ℕ) → i < length a.links → at a.links p.far i ≡ 1 → i ≡ p.shared
  far_has_just_the_shared_link i l e = leaf_has_one_link a.links p.far i p.shared A.single l A.here e shared_at_far

  pub far_is_an_end : ends_in a p.far ≡ 1
  far_is_an_end = a_leaf_is_an_end a.links a.sites a.marks p.far far-site.1 A.single

-- ---- a region in the joined tree

-- a site of the tree at a link of the region is a site of the region at that link
pub site_of_link : {a : Region} {p : Border} → Bordered a p → {t : Region} {site link : ℕ → ℕ} → Lies a p t site link → (z i : ℕ) → i < length a.links
    → at t.links z (link i) ≡ 1 → (x : ℕ) × Site a.sites x × (site x ≡ z) × (at a.links x i ≡ 1)
site_of_link {a} A {t} {site} {link} L z i l e =
    let ls = a.links in
    let first : site (one ls i) ≡ z → (x : ℕ) × Site a.sites x × (site x ≡ z) × (at ls x i ≡ 1)
    = λ h. (one ls i, (A.tree.ends i l).0, h, at_first ls i refl) in
    let second : site (two ls i) ≡ z → (x : ℕ) × Site a.sites x × (site x ≡ z) × (at ls x i ≡ 1)
    = λ h. (two ls i, (A.tree.ends i l).1, h, at_second ls i refl) in
    elim (at-end t.links (link i) e) [
      | inl h ↦ elim (L.carried i l) [ inl c ↦ first (sym c.0 ∙ h) | inr c ↦ second (sym c.0 ∙ h) ]
      | inr h ↦ elim (L.carried i l) [ inl c ↦ second (sym c.1 ∙ h) | inr c ↦ first (sym c.1 ∙ h) ]
    ]

pub at_carried : {a : Region} {p : Border} → Bordered a p → {t : Region} {site link : ℕ → ℕ} → Lies a p t site link
    → (v i : ℕ) → Site a.sites v → i < length a.links → at t.links (site v) (link i) ≡ at a.links v i
at_carried {a} A {t} {site} {link} L v i s l =
    let ls = a.links in
    let ms = t.links in
    same? (one ls i) v
    (λ e. rw (at_first ls i e) (elim (L.carried i l) [
      | inl c ↦ at_first ms (link i) (c.0 ∙ ap site e)
      | inr c ↦ at_second ms (link i) (c.1 ∙ ap site e)
    ]))
    (λ d. same? (two ls i) v
    (λ e. rw (at_second ls i e) (elim (L.carried i l) [
      | inl c ↦ at_second ms (link i) (c.1 ∙ ap site e)
      | inr c ↦ at_first ms (link i) (c.0 ∙ ap site e)
    ]))
    (λ d'.
    let x : site (one ls i) ≢ site v = λ e. d (L.site_once (one ls i) v (A.tree.ends i l).0 s e) in
    let y : site (two ls i) ≢ site v = λ e. d' (L.site_once (two ls i) v (A.tree.ends i l).1 s e) in
    rw (at_none ls i d d') (elim (L.carried i l) [
      | inl c ↦ at_none ms (link i) (λ e. x (sym c.0 ∙ e)) (λ e. y (sym c.1 ∙ e))
      | inr c ↦ at_none ms (link i) (λ e. y (sym c.0 ∙ e)) (λ e. x (sym c.1 ∙ e))
    ])))

-- ---- two regions in their joined tree

-- the second region first
pub turned : {a b t : Region} {p q : Border} {site₁ link₁ site₂ link₂ : ℕ → ℕ} → Joins a p b q t site₁ link₁ site₂ link₂
    → Joins b q a p t site₂ link₂ site₁ link₁
turned J = record {
  first = J.second;
  second = J.first;
  near-far = sym J.far-near;
  far-near = sym J.near-far;
  common = λ x y r s e. elim (J.common y x s r (sym e)) [ inl h ↦ inr (h.1, h.0) | inr h ↦ inl (h.1, h.0) ];
  each-site = λ z s. ⊎_swap (J.each-site z s);
  sites_once = omega (arith, J.sites_once);
  one_link = sym J.one_link;
  only = λ i k l m e. let h = J.only k i m l (sym e) in (h.1, h.0);
  each-link = λ j l. ⊎_swap (J.each-link j l);
}

module _ {a b t : Region} {p q : Border} {site₁ link₁ site₂ link₂ : ℕ → ℕ} (A : Bordered a p) (B : Bordered b q)
    (J : Joins a p b q t site₁ link₁ site₂ link₂) where
  -- every site of the first region but the far one has all its links there: of the second region's it has the shared one alone
  links_are_the_regions : (v : ℕ) → Site a.sites v → v ≢ p.far → (j : ℕ) → j < length t.links → at t.links (site₁ v) j ≡ 1
      → (i : ℕ) × (i < length a.links) × (link₁ i ≡ j)
  links_are_the_regions v s d j l e = elim (J.each-link j l) [
    | inl r ↦ r
    | inr r ↦
        let k = r.0 in
        let w = site_of_link B J.second (site₁ v) k r.1 (rw r.2 e) in
        elim (J.common v w.0 s w.1 (sym w.2)) [
          | inl h ↦ (p.shared, A.here, J.one_link ∙ ap link₂ (sym (far_has_just_the_shared_link B k r.1 (rw h.1 at w.3))) ∙ r.2)
          | inr h ↦ absurd (d h.0)
        ]
  ]

  -- so a sum over its links is the same,
  pub sum-at-a-site : (v : ℕ) → Site a.sites v → v ≢ p.far → (u : ℕ → ℕ) → sum_at t.links (site₁ v) u ≡ sum_at a.links v (λ i. u (link₁ i))
  unfolding sum_at
  sum-at-a-site v s d u =
      let m = length a.links in
      let term : ℕ → ℕ = λ j. at t.links (site₁ v) j * u j in
      sum-eq (length t.links) term (λ j. hits m link₁ j * term j)
      (λ j l. same? (at t.links (site₁ v) j) 1
      (λ e.
      let r = links_are_the_regions v s d j l e in
      let once : hits m link₁ j ≡ 1 = rw r.2 at (hits-one m link₁ r.0 r.1 (λ k h. J.first.link_once k r.0 h r.1)) in
      rw once (omega arith))
      (λ z. let none : at t.links (site₁ v) j ≡ 0 = omega (arith, at-le t.links (site₁ v) j) in rw none (omega arith)))
      ∙ sym (sum_carried m (length t.links) link₁ term J.first.within)
      ∙ sum-eq m (λ i. term (link₁ i)) (λ i. at a.links v i * u (link₁ i)) (λ i l. rw (at_carried A J.first v i s l))

  -- it has one link where it has one here,
  pub leaf_in_the_joined_tree : (v : ℕ) → Site a.sites v → v ≢ p.far → leaf t.links (site₁ v) ≡ leaf a.links v
  unfolding leaf
  leaf_in_the_joined_tree v s d = ap (λ n. is n 1) (sum-at-a-site v s d (λ i. 1))

  -- and is an end where it is one here
  pub end_in_the_joined_tree : (v : ℕ) → Site a.sites v → v ≢ p.far → ends_in t (site₁ v) ≡ ends_in a v
  unfolding end_at
  end_in_the_joined_tree v s d =
      let same : end_at t.links t.marks (site₁ v) ≡ end_at a.links a.marks v = rw (J.first.same-mark v s d, leaf_in_the_joined_tree v s d) in
      ends_are_told t.links t.sites t.marks (site₁ v) (J.first.inside v s).1 ∙ same ∙ sym (ends_are_told a.links a.sites a.marks v s.1)

  joint_is_not_far : (v : ℕ) → ends_in a v ≢ 1 → v ≢ p.far
  joint_is_not_far v m e = m (rw e (far_is_an_end A))

  pub joint_in_the_joined_tree : (v : ℕ) → Site a.sites v → ends_in a v ≢ 1 → ends_in t (site₁ v) ≢ 1
  joint_in_the_joined_tree v s m e = m (sym (end_in_the_joined_tree v s (joint_is_not_far v m)) ∙ e)

  -- no link is heavy at a joint of the region exactly if none is in the joined tree
  pub light_in_the_joined_tree : (v : ℕ) → Site a.sites v → ends_in a v ≢ 1 → (u : ℕ → ℕ)
      → Light a.links v (λ i. u (link₁ i)) ↔ Light t.links (site₁ v) u
  light_in_the_joined_tree v s m u =
      let d = joint_is_not_far v m in
      let e = sum-at-a-site v s d u in (
        λ h j l o.
            let r = links_are_the_regions v s d j l o in
            let here : at a.links v r.0 ≡ 1 = sym (at_carried A J.first v r.0 s r.1) ∙ rw r.2 o in
            rw (← r.2, e) (h r.0 r.1 here),
        λ h i l o. rw (← e) (h (link₁ i) (J.first.within i l) (at_carried A J.first v i s l ∙ o)),
      )

  -- what is balanced in the joined tree is balanced in the region
  pub balanced_in_the_region : (u : ℕ → ℕ) → Balanced t.links (ends_in t) u → Balanced a.links (ends_in a) (λ i. u (link₁ i))
  balanced_in_the_region u h v m j l o =
      let s = at-site a.links A.tree.ends j l o in
      (light_in_the_joined_tree v s m u).1 (h (site₁ v) (joint_in_the_joined_tree v s m)) j l o

-- a joint of the joined tree at a link of the first region is a joint of one of the regions
pub joint_of_a_region : {a b t : Region} {p q : Border} {site₁ link₁ site₂ link₂ : ℕ → ℕ} → Bordered a p → Bordered b q
    → Joins a p b q t site₁ link₁ site₂ link₂ → (v i : ℕ) → ends_in t v ≢ 1 → i < length a.links → at t.links v (link₁ i) ≡ 1
    → ((x : ℕ) × Site a.sites x × (ends_in a x ≢ 1) × (site₁ x ≡ v)) ⊎ ((y : ℕ) × Site b.sites y × (ends_in b y ≢ 1) × (site₂ y ≡ v))
joint_of_a_region {a} {b} {t} {p} {q} {site₁} {link₁} {site₂} A B J v i m l o =
    let w = site_of_link A J.first v i l o in
    let x = w.0 in
    same? x p.far
    (λ e.
    let f : site₂ q.near ≡ v = sym J.far-near ∙ ap site₁ (sym e) ∙ w.2 in
    let there = end_in_the_joined_tree B A (turned J) q.near (near-site B) (near-is-not-far B) in
    inr (q.near, near-site B, (λ h. m (ap (ends_in t) (sym f) ∙ there ∙ h)), f))
    (λ d. inl (x, w.1, (λ h. m (ap (ends_in t) (sym w.2) ∙ end_in_the_joined_tree A B J x w.1 d ∙ h)), w.2))
