-- The exchange: what both regions are given is the trimmed sizes of their joined tree, link by link, however it is numbered.
-- What is balanced in both regions and agrees on the shared link is balanced in the joined tree; what is balanced there is balanced in each region, so
-- that it passes neither first trimmed size of the shared link.
use Rattle.std.specs.Prelude.{◌≡◌, refl, ◌≢◌, ◌⊎◌, List, ℕ, ◌+◌, ◌≤◌, ◌<◌, length}
use Rattle.std.proofs.Common.{sym, ap, ◌∙◌, inl, inr, arith}
use Rattle.std.proofs.Math.Logic.{⊎_swap}
use Rattle.lists.specs.Numbers.{pick, look}
use Rattle.lists.specs.Sums.{same?, pick_same, pick_other}
use Rattle.model.specs.Flows.{Site, at, Below, Tree}
use Rattle.model.specs.Trimming.{Balanced, Greatest}
use Rattle.theory_trees.proofs.Cutting.{light_same}
use Rattle.theory_trees.proofs.Greatest.{greatest_is_unique, balanced_is_greatest}
use Rattle.theory_regions.specs.Regions.{Region, ends_in, trimmed, first_size, trimmed_again}
use Rattle.theory_regions.specs.JoinedTree.{Border, Bordered, Joins}
use Rattle.theory_regions.specs.Carried.{spread, spread-own, spread_none}
use Rattle.theory_regions.specs.Meeting.{turned, light_in_the_joined_tree, balanced_in_the_region, joint_of_a_region}
use Rattle.theory_regions.specs.Again.{trimmed_is_greatest}
use Rattle.theory_regions.proofs.Again.{trimmed_again_is_greatest, the_shared_link_has_the_lesser}
use Rattle.theory_regions.proofs.Again.{no_size_is_passed, no_other_is_greater}

module _ {a b t : Region} {p q : Border} {site₁ link₁ site₂ link₂ : ℕ → ℕ} (A : Bordered a p) (B : Bordered b q)
    (J : Joins a p b q t site₁ link₁ site₂ link₂) where
  -- a joint of the joined tree that has a link is a joint of one of the regions
  joint_of_one : (v j : ℕ) → ends_in t v ≢ 1 → j < length t.links → at t.links v j ≡ 1
      → ((x : ℕ) × Site a.sites x × (ends_in a x ≢ 1) × (site₁ x ≡ v)) ⊎ ((y : ℕ) × Site b.sites y × (ends_in b y ≢ 1) × (site₂ y ≡ v))
  joint_of_one v j m l o = elim (J.each-link j l) [
    | inl r ↦ joint_of_a_region A B J v r.0 m r.1 (rw r.2 o)
    | inr r ↦ ⊎_swap (joint_of_a_region B A (turned J) v r.0 m r.1 (rw r.2 o))
  ]

  -- what is balanced in both regions is balanced in the joined tree
  balanced_in_both : (u : ℕ → ℕ) → Balanced a.links (ends_in a) (λ i. u (link₁ i)) → Balanced b.links (ends_in b) (λ k. u (link₂ k))
      → Balanced t.links (ends_in t) u
  balanced_in_both u f g v m j l o = elim (joint_of_one v j m l o) [
    | inl x ↦ rw x.3 at ((light_in_the_joined_tree A B J x.0 x.1 x.2 u).0 (f x.0 x.2)) j l o
    | inr y ↦ rw y.3 at ((light_in_the_joined_tree B A (turned J) y.0 y.1 y.2 u).0 (g y.0 y.2)) j l o
  ]

  -- values on the regions that agree on the shared link are those of one list of values
  values_joined : (u v : ℕ → ℕ) → u p.shared ≡ v q.shared
      → (w : ℕ → ℕ) × ((i : ℕ) → i < length a.links → w (link₁ i) ≡ u i) × ((k : ℕ) → k < length b.links → w (link₂ k) ≡ v k)
  values_joined u v e =
      let rest : ℕ → ℕ = λ k. pick k q.shared 0 (v k) in
      let m = length a.links in
      let n = length b.links in
      let one_at : (i : ℕ) → i < m → spread m link₁ u (link₁ i) ≡ u i = λ i l. spread-own m link₁ u i l (λ k h. J.first.link_once k i h l) in
      let two_at : (k : ℕ) → k < n → spread n link₂ rest (link₂ k) ≡ rest k = λ k l. spread-own n link₂ rest k l (λ i h. J.second.link_once i k h l) in (
        λ j. spread m link₁ u j + spread n link₂ rest j,
        λ i l. omega (arith, one_at i l, spread_none n link₂ rest (link₁ i) (λ k h z. pick_same (J.only i k l h (sym z)).1 0 (v k))),
        λ k l. same? k q.shared
            (λ z. rw z (omega (
              arith,
              two_at q.shared (rw z at l),
              pick_same {u = q.shared} refl 0 (v q.shared),
              rw J.one_link at (one_at p.shared A.here),
            )))
            (λ d. omega (
              arith,
              two_at k l,
              pick_other d 0 (v k),
              spread_none m link₁ u (link₂ k) (λ i h z. absurd (d (J.only i k h l z).1)),
            )),
      )

  -- what is balanced in the joined tree and passes no size there, on the first region's links: it is balanced, and passes no size,
  on_the_region : (r : ℕ → ℕ) → Below t.links r (look t.capacities) → (i : ℕ) → i < length a.links → r (link₁ i) ≤ look a.capacities i
  on_the_region r f i l = omega (arith, f (link₁ i) (J.first.within i l), J.first.size i l)

  -- so on the shared link it has at most the region's first trimmed size
  below_the_first_size : (r : ℕ → ℕ) → Balanced t.links (ends_in t) r → Below t.links r (look t.capacities)
      → r (link₁ p.shared) ≤ first_size a p.shared
  unfolding first_size
  below_the_first_size r h f =
      (trimmed_is_greatest A).greatest (λ i. r (link₁ i)) (balanced_in_the_region A B J r h) (on_the_region r f) p.shared A.here

module _ {a b t : Region} {p q : Border} {site₁ link₁ site₂ link₂ : ℕ → ℕ} (A : Bordered a p) (B : Bordered b q)
    (J : Joins a p b q t site₁ link₁ site₂ link₂) where
  -- what the regions are given: u and v, for the numbers x and y that they show
  abbrev x : ℕ
  x = first_size a p.shared

  abbrev y : ℕ
  y = first_size b q.shared

  abbrev u : List ℕ
  u = trimmed_again a p.shared y

  abbrev v : List ℕ
  v = trimmed_again b q.shared x

  -- both have the same size on the shared link
  one_size : look u p.shared ≡ look v q.shared
  one_size = omega (
    arith,
    the_shared_link_has_the_lesser A y,
    the_shared_link_has_the_lesser B x,
  )

  -- values that are u on the first region and v on the second are the trimmed sizes of the joined tree
  given_is_greatest : (w : ℕ → ℕ) → ((i : ℕ) → i < length a.links → w (link₁ i) ≡ look u i) → ((k : ℕ) → k < length b.links → w (link₂ k) ≡ look v k)
      → Greatest t.links (ends_in t) (look t.capacities) w
  given_is_greatest w f g = record {
    below = λ j l. elim (J.each-link j l) [
      | inl r ↦ rw (← r.2) (omega (
        arith,
        f r.0 r.1,
        no_size_is_passed A y r.0 r.1,
        J.first.size r.0 r.1,
      ))
      | inr r ↦ rw (← r.2) (omega (
        arith,
        g r.0 r.1,
        no_size_is_passed B x r.0 r.1,
        J.second.size r.0 r.1,
      ))
    ];
    balanced = balanced_in_both A B J w
        (λ z m. light_same a.links z (look u) (λ i. w (link₁ i)) (λ i l o. f i l) ((trimmed_again_is_greatest A y).balanced z m))
        (λ z m. light_same b.links z (look v) (λ k. w (link₂ k)) (λ k l o. g k l) ((trimmed_again_is_greatest B x).balanced z m));
    greatest = λ r h below j l.
        let low₁ = below_the_first_size A B J r h below in
        let low₂ = below_the_first_size B A (turned J) r h below in
        let one = ap r J.one_link in
        elim (J.each-link j l) [
          | inl z ↦ rw (← z.2) (omega (
            arith,
            f z.0 z.1,
            no_other_is_greater A y (λ i. r (link₁ i)) (balanced_in_the_region A B J r h)
                (on_the_region A B J r below) (omega arith) z.0 z.1,
          ))
          | inr z ↦ rw (← z.2) (omega (
            arith,
            g z.0 z.1,
            no_other_is_greater B x (λ k. r (link₂ k)) (balanced_in_the_region B A (turned J) r h)
                (on_the_region B A (turned J) r below) (omega arith) z.0 z.1,
          ))
        ];
  }

  -- the trimmed sizes of the joined tree are u on the first region's links and v on the second's
  pub sizes_of_the_joined_tree : Tree t.links t.sites
      → ((i : ℕ) → i < length a.links → look (trimmed t) (link₁ i) ≡ look u i) × ((k : ℕ) → k < length b.links → look (trimmed t) (link₂ k) ≡ look v k)
  sizes_of_the_joined_tree T =
      let r = values_joined A B J (look u) (look v) one_size in
      let same = greatest_is_unique t.links (ends_in t) (balanced_is_greatest T (ends_in t) t.capacities) (given_is_greatest r.0 r.1 r.2) in (
        λ i l. same (link₁ i) (J.first.within i l) ∙ r.1 i l,
        λ k l. same (link₂ k) (J.second.within k l) ∙ r.2 k l,
      )
