-- The sum over own ends as a program has it, over all ends less the shared link's size; so it is the same whichever site of the shared link stands as far,
-- where both may, and a region finds its far site by itself.
use Rattle.std.specs.Prelude.{◌≡◌, ◌≢◌, ◌↔◌, List, length}
use Rattle.std.proofs.Math.Path.{refl}
use Rattle.std.proofs.Common.{ap, ◌∙◌, inl, inr}
use Prim.Native.Nat.{ℕ, ◌+◌, ◌*◌, ◌≤◌}
use native.Mathlib.Omega.{arith}
use Rattle.lists.specs.Numbers.{is, differ, look}
use Rattle.lists.specs.Sums.{same?, pick_same, pick_other, pick_cases, is_same, is-other, is_le, differ-other, differ-le, product_one, sum-single}
use Rattle.lists.specs.Places.{over_add, over-eq, over-is}
use Rattle.model.specs.Flows.{Links, one, two, sites, at, sum_at, leaf, mark, at_terminals}
use Rattle.theory_trees.specs.Trees.{at-le}
use Rattle.theory_trees.specs.Sites.{sites_once}
use Rattle.theory_walk.specs.Regions.{differ-one}
use Rattle.theory_regions.specs.Regions.{Region, ends_in, trimmed_again, lone, far_site, own, own_sum, given}
use Rattle.theory_regions.specs.JoinedTree.{Border, Bordered}
use Rattle.theory_regions.specs.Meeting.{far-site, shared_at_far, far_has_just_the_shared_link, far_is_an_end}

module _ {a : Region} {p : Border} (A : Bordered a p) (u : List ℕ) where
  -- at the far site there is just the shared link
  sum-at-far : sum_at a.links p.far (look u) ≡ look u p.shared
  unfolding sum_at
  sum-at-far = sum-single (length a.links) p.shared (λ i. at a.links p.far i * look u i) A.here
      (λ i l d. same? (at a.links p.far i) 1
      (λ e. absurd (d (far_has_just_the_shared_link A i l e)))
      (λ z. let none : at a.links p.far i ≡ 0 = omega (arith, at-le a.links p.far i) in rw none (omega arith)))
      ∙ rw (shared_at_far A) (omega arith)

  at_an_end : (w : ℕ) → let at-w = sum_at a.links w (look u) in is (ends_in a w) 1 * at-w ≡ is (own (ends_in a) p.far w) 1 * at-w + is w p.far * at-w
  unfolding own
  at_an_end w = same? w p.far
      (λ e. rw (
        e,
        far_is_an_end A,
        pick_same {A = ℕ} {u = p.far} refl 0 1,
        is_same {u = p.far} refl,
        is_same {u = 1} refl,
        is-other {u = 0} {v = 1} (λ z. omega arith),
      ) (omega arith))
      (λ d. rw (pick_other {A = ℕ} d 0 (ends_in a w), is-other d) (omega arith))

  pub all_ends_are_own_or_far : at_terminals a.links a.sites (ends_in a) (look u) ≡ own_sum a p.far u + look u p.shared
  unfolding own_sum at_terminals
  all_ends_are_own_or_far =
      let at-w : ℕ → ℕ = λ w. sum_at a.links w (look u) in
      let mine : ℕ → ℕ = λ w. is (own (ends_in a) p.far w) 1 * at-w w in
      omega (
        arith,
        over-eq (sites a.sites) (λ w. is (ends_in a w) 1 * at-w w) (λ w. mine w + is w p.far * at-w w) (λ w _. at_an_end w),
        over_add (sites a.sites) mine (λ w. is w p.far * at-w w),
        rw (sites_once a.sites p.far (far-site A)) at (over-is (sites a.sites) p.far at-w),
        sum-at-far,
      )

-- either site of the shared link as the far one gives one sum
either-far-site-gives-one-sum : {a : Region} {s x y x' y' : ℕ} → Bordered a (record { shared = s; near = x; far = y })
    → Bordered a (record { shared = s; near = x'; far = y' }) → (u : List ℕ) → own_sum a y u ≡ own_sum a y' u
either-far-site-gives-one-sum A A' u = omega (arith, all_ends_are_own_or_far A u, all_ends_are_own_or_far A' u)

-- ---- a region finds its far site

leaf-le : (ls : Links) (v : ℕ) → leaf ls v ≤ 1
unfolding leaf
leaf-le ls v = is_le (sum_at ls v (λ i. 1)) 1

pub lone_iff : (a : Region) (v : ℕ) → (lone a v ≡ 1) ↔ ((leaf a.links v ≡ 1) × (mark a.marks v ≢ 1))
unfolding lone
lone_iff a v = (
  λ e. let r = product_one (leaf a.links v) (differ (mark a.marks v) 1) (leaf-le a.links v) e in (r.0, differ-one r.1),
  λ h. rw (h.0, differ-other h.1) refl,
)

pub lone-le : (a : Region) (v : ℕ) → lone a v ≤ 1
unfolding lone
lone-le a v = same? (leaf a.links v) 0
    (λ e. rw e (omega arith))
    (λ d. let one : leaf a.links v ≡ 1 = omega (arith, leaf-le a.links v) in rw one (omega (arith, differ-le (mark a.marks v) 1)))

pub a_region_finds_its_far_site : {a : Region} {p : Border} → Bordered a p → mark a.marks p.far ≢ 1 → (u : List ℕ)
    → own_sum a (far_site a p.shared) u ≡ own_sum a p.far u
unfolding far_site
a_region_finds_its_far_site {a} {p} A plain u =
    let ls = a.links in
    let s = p.shared in
    let far-is-lone : lone a p.far ≡ 1 = (lone_iff a p.far).1 (A.single, plain) in
    pick_cases (λ f. own_sum a f u ≡ own_sum a p.far u) (lone a (two ls s)) 1 (two ls s) (one ls s)
    (λ e. either-far-site-gives-one-sum {x = one ls s} {x' = p.near}
    (record { tree = A.tree; sized = A.sized; here = A.here; between = inl (refl, refl); single = ((lone_iff a (two ls s)).0 e).0 }) A u)
    (λ d. elim A.between [
      | inl h ↦ absurd (d (rw h.1 far-is-lone))
      | inr h ↦ ap (λ f. own_sum a f u) h.0
    ])

-- so the sum that it is given is that over all ends, less the shared link's size
pub the_sum_over_all_ends : {a : Region} {p : Border} → Bordered a p → mark a.marks p.far ≢ 1 → (other : ℕ) → let u = given a p.shared other in
    at_terminals a.links a.sites (ends_in a) (look u.sizes) ≡ u.sum + look u.sizes p.shared
unfolding given
the_sum_over_all_ends {a} {p} A plain other =
    let u = trimmed_again a p.shared other in omega (arith, all_ends_are_own_or_far A u, a_region_finds_its_far_site A plain u)
