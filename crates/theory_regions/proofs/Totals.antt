-- The joined tree, however it is numbered, is a tree; and the sums of the two regions over their own ends add up to its sum over all ends.
use Rattle.std.specs.Prelude.{◌≡◌, ◌≢◌, List, ℕ, ◌+◌, ◌*◌, ◌<◌, length}
use Rattle.std.proofs.Math.Path.{refl, sym, ap}
use Rattle.std.proofs.Common.{◌∙◌}
use Rattle.std.proofs.Math.Logic.{inl, inr}
use native.Mathlib.Omega.{arith}
use Rattle.lists.specs.Numbers.{is, sum, look}
use Rattle.lists.specs.Sums.{pick_same, pick_other, is-other, sum_eq_but}
use Rattle.model.specs.Flows.{Links, Site, one, two, Tree, at_terminals}
use Rattle.theory_trees.specs.Trees.{at_first, at_second}
use Rattle.theory_trees.specs.Sites.{by_link}
use Rattle.theory_regions.specs.Regions.{Region, ends_in, own, own_sum}
use Rattle.theory_regions.specs.JoinedTree.{Border, Bordered, Joins}
use Rattle.theory_regions.specs.Meeting.{near-site, near-is-not-far, far_has_just_the_shared_link, turned, end_in_the_joined_tree}
use Rattle.theory_regions.specs.Totals.{sum-over-both, the_joined_tree_is_a_tree}

-- ---- sums over ends

-- what the ends at the two sites of link i take of sizes u
unfoldable at_link : Links → (ℕ → ℕ) → (ℕ → ℕ) → ℕ → ℕ
at_link ls end u i = is (end (one ls i)) 1 * u i + is (end (two ls i)) 1 * u i

ends_by_link : {ls : Links} {n : ℕ} → Tree ls n → (end u : ℕ → ℕ) → at_terminals ls n end u ≡ sum (length ls) (at_link ls end u)
unfolding at_terminals at_link
ends_by_link T end u = by_link T (λ x. is (end x) 1) (λ x. u)

module _ {a b t : Region} {p q : Border} {site₁ link₁ site₂ link₂ : ℕ → ℕ} (A : Bordered a p) (B : Bordered b q)
    (J : Joins a p b q t site₁ link₁ site₂ link₂) where
  -- the region's own ends
  abbrev mine : ℕ → ℕ
  mine = own (ends_in a) p.far

  own-end : (x : ℕ) → Site a.sites x → x ≢ p.far → mine x ≡ ends_in t (site₁ x)
  unfolding own
  own-end x s d = pick_other d 0 (ends_in a x) ∙ sym (end_in_the_joined_tree A B J x s d)

  far-is-not-own : is (mine p.far) 1 ≡ 0
  unfolding own
  far-is-not-own = rw (pick_same {u = p.far} refl 0 (ends_in a p.far)) (is-other {u = 0} {v = 1} (λ e. omega arith))

  -- off the shared link they take what the ends of the joined tree take,
  own-link : (w u : ℕ → ℕ) (i : ℕ) → i < length a.links → i ≢ p.shared → w (link₁ i) ≡ u i
      → at_link a.links mine u i ≡ at_link t.links (ends_in t) w (link₁ i)
  unfolding at_link
  own-link w u i l d e =
      let ls = a.links in
      let x = own-end (one ls i) (A.tree.ends i l).0 (λ h. d (far_has_just_the_shared_link A i l (at_first ls i h))) in
      let y = own-end (two ls i) (A.tree.ends i l).1 (λ h. d (far_has_just_the_shared_link A i l (at_second ls i h))) in
      rw (x, y, e) (elim (J.first.carried i l) [ inl c ↦ rw (c.0, c.1) | inr c ↦ rw (c.0, c.1) (omega arith) ])

  -- and on it the near site's part
  own_shared : (u : ℕ → ℕ) → at_link a.links mine u p.shared ≡ is (ends_in t (site₁ p.near)) 1 * u p.shared
  unfolding at_link
  own_shared u =
      let x = own-end p.near (near-site A) (near-is-not-far A) in
      elim A.between [
        | inl h ↦ rw (h.0, h.1, x, far-is-not-own) (omega arith)
        | inr h ↦ rw (h.0, h.1, x, far-is-not-own) (omega arith)
      ]

  -- there both sites take their part
  whole_shared : (w : ℕ → ℕ) → let s = link₁ p.shared in
      at_link t.links (ends_in t) w s ≡ is (ends_in t (site₁ p.near)) 1 * w s + is (ends_in t (site₁ p.far)) 1 * w s
  unfolding at_link
  whole_shared w = elim A.between [
    | inl h ↦ elim (J.first.carried p.shared A.here) [
      | inl c ↦ rw (c.0, c.1, h.0, h.1)
      | inr c ↦ rw (c.0, c.1, h.0, h.1) (omega arith)
    ]
    | inr h ↦ elim (J.first.carried p.shared A.here) [
      | inl c ↦ rw (c.0, c.1, h.0, h.1) (omega arith)
      | inr c ↦ rw (c.0, c.1, h.0, h.1)
    ]
  ]

module _ {a b t : Region} {p q : Border} {site₁ link₁ site₂ link₂ : ℕ → ℕ} (A : Bordered a p) (B : Bordered b q)
    (J : Joins a p b q t site₁ link₁ site₂ link₂) where
  pub own_sums_add_up : (w u v : List ℕ) → ((i : ℕ) → i < length a.links → look w (link₁ i) ≡ look u i)
      → ((k : ℕ) → k < length b.links → look w (link₂ k) ≡ look v k)
      → own_sum a p.far u + own_sum b q.far v ≡ at_terminals t.links t.sites (ends_in t) (look w)
  unfolding own_sum
  own_sums_add_up w u v f g =
      let all = at_link t.links (ends_in t) (look w) in
      let K = turned J in
      omega (
        arith,
        ends_by_link A.tree (own (ends_in a) p.far) (look u),
        ends_by_link B.tree (own (ends_in b) q.far) (look v),
        ends_by_link (the_joined_tree_is_a_tree A B J) (ends_in t) (look w),
        sum-over-both A B J all,
        sum_eq_but (length a.links) p.shared (at_link a.links (own (ends_in a) p.far) (look u)) (λ i. all (link₁ i)) A.here
            (λ i l d. own-link A B J (look w) (look u) i l d (f i l)),
        sum_eq_but (length b.links) q.shared (at_link b.links (own (ends_in b) q.far) (look v)) (λ k. all (link₂ k)) B.here
            (λ k l d. own-link B A K (look w) (look v) k l d (g k l)),
        own_shared A B J (look u),
        own_shared B A K (look v),
        whole_shared A B J (look w),
        ap all J.one_link,
        ap (λ z. is (ends_in t z) 1 * look v q.shared) J.far-near,
        ap (λ z. is (ends_in t (site₁ p.near)) 1 * z) (f p.shared A.here),
        ap (λ z. is (ends_in t (site₁ p.far)) 1 * z) (ap (look w) J.one_link ∙ g q.shared B.here),
      )
