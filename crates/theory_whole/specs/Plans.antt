-- Whole loads on a tree along an inward order: the loads that are computed are whole loads, and no others bring more to the terminals.
-- By taking each link's load to the site whose parent link it is, and back; cap: the capacities of the links.
use Rattle.std.specs.Prelude.{◌≡◌, ◌≢◌, ◌⊎◌, List, [], ◌∷◌}
use Rattle.std.proofs.Math.Path.{refl, ap}
use Rattle.std.proofs.Common.{sym, ◌∙◌}
use Rattle.std.proofs.Math.Logic.{inl, inr}
use Prim.Native.Nat.{ℕ, ◌+◌, ◌*◌, ◌/◌, ◌≤◌, ◌<◌}
use native.Mathlib.Omega.{arith}
use Rattle.std.proofs.Math.ListN.{length}
use Rattle.lists.specs.Numbers.{is, sum, count, over}
use Rattle.lists.specs.Sums.{is_same, is-other, is_one, same?, sum-none, sum-eq, sum_eq_but}
use Rattle.lists.specs.Places.{over-eq}
use Rattle.model.specs.Flows.{Links, Site, Tree, sites, one, two, at, sum_at, at_terminals}
use Rattle.model.specs.Trimming.{unvisited, Inward}
use Rattle.model.specs.Whole.{WholeLoads}
use Rattle.model.specs.WholeLoads.{beyond, upward, parent_of, link_load}
use Rattle.theory_trees.specs.Trees.{at-end, loopless}
use Rattle.theory_trees.specs.Sites.{at-site, sites-site, sites_once, sum_at-same}
use Rattle.theory_whole.specs.Sums.{over_none, over_le_but, over_only, over-same}
use Rattle.theory_whole.specs.Rooted.{children, children-eq, Child, Rooted}
use Rattle.theory_whole.specs.Order.{Plain, place, rooted}
use Rattle.theory_whole.specs.Loads.{Good, at_ends}
use Rattle.theory_whole.specs.Solution.{Solution, solution_good, solution_best}
use Rattle.theory_whole.specs.Links.{Above, above, beyond-at, at_both, taken_of, children-links, all-links}

-- a sum over the children that is not 0 has a child
some-child : (us : List ℕ) (par : ℕ → ℕ) (v : ℕ) (f : ℕ → ℕ) → 1 ≤ children us par v f → (w : ℕ) × Child us par v w
unfolding children over count
some-child [] par v f h = absurd (omega arith)
some-child (u ∷ us) par v f h = same? (par u) v
    (λ e. (u, record { site = omega (arith, is_same {u = u} refl); parent = e }))
    (λ d. let r = some-child us par v f (omega (arith, rw (is-other d) at h)) in
    (r.0, record { site = omega (arith, r.1.site); parent = r.1.parent }))

-- a tree, its terminals (every site with one link is one) and an order that takes its sites from outside inward
pub record Network (ls : Links) (n : ℕ) (terminal : ℕ → ℕ) (order : List ℕ) : Type 0 where
  pub tree : Tree ls n
  pub inward : Inward ls order
  pub every : (x : ℕ) → count order x ≡ count (sites n) x
  pub joint : (v : ℕ) → Site n v → terminal v ≢ 1 → 2 ≤ sum_at ls v (λ i. 1)

module _ {ls : Links} {n : ℕ} {terminal : ℕ → ℕ} {order : List ℕ} (N : Network ls n terminal order) where
  pub in_site : (x : ℕ) → 1 ≤ count order x → Site n x
  in_site x p = sites-site n x (omega (arith, N.every x))

  pub site_in_lem : (x : ℕ) → Site n x → count order x ≡ 1
  site_in_lem x p = N.every x ∙ sites_once n x p

  pub root_free : count order 0 ≡ 0
  root_free = same? (count order 0) 0 (λ e. e) (λ d. absurd (omega (arith, in_site 0 (omega arith))))

  abbrev up : (ℕ → ℕ) → ℕ → ℕ
  up f v = upward ls order v f

  abbrev par : ℕ → ℕ
  par v = parent_of ls order v

  abbrev Up : ℕ → Type 0
  Up v = Above ls (loopless N.tree) order v

  -- the links at a site are its parent link and its children' parent links
  pub links-at : (v : ℕ) → 1 ≤ count order v → (f : ℕ → ℕ) → up f v + children order par v (up f) ≡ sum_at ls v f
  unfolding unvisited
  links-at v p f = omega (
    arith,
    children-links ls (loopless N.tree) order N.inward root_free v p f,
    sum_at-same ls v (λ j. unvisited ls order j * f j) f (λ j l a.
        let e = N.tree.ends j l in
        rw (site_in_lem (one ls j) e.0, site_in_lem (two ls j) e.1) (omega arith)),
  )

  pub zero-end : (e : ℕ) → e < length ls → at ls 0 e ≢ 1
  zero-end e l a = elim (at-end ls e a) [ inl q ↦ omega (arith, (N.tree.ends e l).0) | inr q ↦ omega (arith, (N.tree.ends e l).1) ]

  -- the parent link of v, if it has one
  pub one-above : (v : ℕ) → 1 ≤ count order v
      → ((par v ≡ 0) × ((f : ℕ → ℕ) → up f v ≡ 0))
      ⊎ ((e : ℕ) × (e < length ls) × (at ls v e ≡ 1) × (at ls (par v) e ≡ 1) × (par v ≢ 0) × ((f : ℕ → ℕ) → up f v ≡ f e))
  unfolding parent_of
  one-above v p = look (above ls (loopless N.tree) order N.inward v p)
    where
      look : Up v → ((upward ls order v (beyond ls v) ≡ 0) × ((f : ℕ → ℕ) → up f v ≡ 0)) ⊎ ((e : ℕ) × (e < length ls) × (at ls v e ≡ 1)
          × (at ls (upward ls order v (beyond ls v)) e ≡ 1) × (upward ls order v (beyond ls v) ≢ 0) × ((f : ℕ → ℕ) → up f v ≡ f e))
      look (Above.none z w) = inl (z (beyond ls v), z)
      look (Above.some e l a w g o) =
          let b = rw (← (g (beyond ls v))) at (beyond-at ls (loopless N.tree) v e a) in
          inr (e, l, a, b, (λ q. zero-end e l (rw q at b)), g)

  -- the site whose parent link is link j
  pub record Lower (j : ℕ) : Type 0 where
    pub site : ℕ
    pub here : 1 ≤ count order site
    pub ups : (f : ℕ → ℕ) → up f site ≡ f j
    pub touches : at ls site j ≡ 1
    pub parent_touches : at ls (par site) j ≡ 1
    pub only : (w : ℕ) → 1 ≤ count order w → w ≢ site → up (λ i. is i j) w ≡ 0

  -- a sum over the parent links is a sum over the links
  pub by_link : (f : ℕ → ℕ) → over order (λ v. up f v) ≡ sum (length ls) f
  unfolding unvisited
  by_link f = all-links ls (loopless N.tree) order N.inward f
      ∙ sum-eq (length ls) (λ j. unvisited ls order j * f j) f (λ j l.
      let e = N.tree.ends j l in
      rw (site_in_lem (one ls j) e.0, site_in_lem (two ls j) e.1) (omega arith))

  pub lower : (j : ℕ) → j < length ls → Lower j
  lower j l =
      let one-term : sum (length ls) (λ i. is i j) ≡ 1
      = omega (arith, is_same {u = j} refl, sum-none (length ls), sum_eq_but (length ls) j (λ i. is i j) (λ i. 0) l (λ i k d. is-other d)) in
      let r = over_only order (λ v. up (λ i. is i j) v) (by_link (λ i. is i j) ∙ one-term) in
      elim (one-above r.0 r.1) [
        | inl q ↦ absurd (omega (arith, r.2, q.1 (λ i. is i j)))
        | inr q ↦
            let e : q.0 ≡ j = is_one (sym (q.5 (λ i. is i j)) ∙ r.2) in
            record {
              site = r.0;
              here = r.1;
              ups = λ f. q.5 f ∙ ap f e;
              touches = rw e at q.2;
              parent_touches = rw e at q.3;
              only = r.3;
            }
      ]

  link_load-at : (x : ℕ → ℕ) (j : ℕ) (l : j < length ls) → link_load ls order x j ≡ x (lower j l).site
  unfolding link_load
  link_load-at x j l =
      let w = lower j l in
      let s = w.site in
      let g : ℕ → ℕ = λ v. up (λ i. is i j) v * x v in
      let one : count order s ≡ 1 = site_in_lem s (in_site s w.here) in
      let other : (v : ℕ) → 1 ≤ count order v → v ≢ s → g v ≡ 0 = λ v p d. rw (w.only v p d) (omega arith) in
      let own : up (λ i. is i j) s ≡ 1 = w.ups (λ i. is i j) ∙ is_same {u = j} refl in
      omega (
        arith,
        over_none order,
        over_le_but order s g (λ v. 0) one (λ v p d. omega (arith, other v p d)),
        over_le_but order s (λ v. 0) g one (λ v p d. omega arith),
        ap (λ z. z * x s) own,
      )

  -- and back
  up-link_load : (x : ℕ → ℕ) (v : ℕ) → 1 ≤ count order v → par v ≢ 0 → up (link_load ls order x) v ≡ x v
  up-link_load x v p d = elim (one-above v p) [
    | inl r ↦ absurd (d r.0)
    | inr r ↦ let w = lower r.0 r.1 in
        r.5 (link_load ls order x) ∙ link_load-at x r.0 r.1 ∙ ap x (same? w.site v (λ e. e)
        (λ n. absurd (omega (arith, w.only v p (λ e. n (sym e)), r.5 (λ i. is i r.0), is_same {u = r.0} refl))))
  ]

  -- a parent is another site
  pub climbs : (v : ℕ) → 1 ≤ count order v → par v ≢ v
  climbs v p e = omega (
    arith,
    ap (place order) e,
    (rooted (parent_of ls order) order (taken_of ls (loopless N.tree) (parent_of ls order) order N.inward root_free (λ v p. refl))).later v p,
  )

  module _ (cap : ℕ → ℕ) where
    -- what the algorithm is run on: sites in order, parents, capacities of the parent links
    pub plain : Plain order par (up cap) terminal
    plain = record {
      taken = taken_of ls (loopless N.tree) (parent_of ls order) order N.inward root_free (λ v p. refl);
      joint = λ v p m. some-child order par v (up (λ i. 1)) (omega (
        arith,
        N.joint v (in_site v p) m,
        links-at v p (λ i. 1),
        up_small v p,
      ));
      bare = λ v p e. elim (one-above v p) [ inl r ↦ r.1 cap | inr r ↦ absurd (r.4 e) ];
    }
      where
        up_small : (v : ℕ) → 1 ≤ count order v → up (λ i. 1) v ≤ 1
        up_small v p = elim (one-above v p) [ inl r ↦ omega (arith, r.1 (λ i. 1)) | inr r ↦ omega (arith, r.5 (λ i. 1)) ]

    -- loads of links, each taken to the site whose parent link it is
    loads-good : {l : ℕ → ℕ} → WholeLoads ls n terminal cap l → Good order par (up cap) terminal (up l)
    loads-good {l} g = record {
      fits = λ v p. elim (one-above v p) [
        | inl r ↦ omega (arith, r.1 l)
        | inr r ↦ omega (arith, r.5 l, r.5 cap, g.below r.0 r.1)
      ];
      even = λ v p m. let e = g.even v (in_site v p) m in omega (arith, links-at v p l, e.1);
      up = λ v p m. elim (one-above v p) [
        | inl r ↦ omega (arith, r.1 l)
        | inr r ↦ omega (arith, r.5 l, links-at v p l, g.balanced v m r.0 r.1 r.2)
      ];
      down = λ v w p m k. elim (one-above w k.site) [
        | inl r ↦ omega (arith, r.1 l)
        | inr r ↦ omega (arith, r.5 l, links-at v p l, g.balanced v m r.0 r.1 (rw k.parent at r.3))
      ];
    }

    ends-terminals : (l : ℕ → ℕ) → at_ends order par (up cap) terminal (up l) ≡ at_terminals ls n terminal l
    unfolding at_ends at_terminals
    ends-terminals l =
        over-eq order (λ v. is (terminal v) 1 * (up l v + children order par v (up l))) (λ v. is (terminal v) 1 * sum_at ls v l)
        (λ v p. ap (λ z. is (terminal v) 1 * z) (links-at v p l))
        ∙ over-same order (sites n) (λ v. is (terminal v) 1 * sum_at ls v l)
        (λ x p. sites_once n x (in_site x p)) (λ x p. site_in_lem x (sites-site n x p))

    -- ---- the loads that are computed, link by link

    module _ {x : ℕ → ℕ} (g : Good order par (up cap) terminal x) where
      root-load : (v : ℕ) → 1 ≤ count order v → par v ≡ 0 → x v ≡ 0
      root-load v p e = omega (arith, g.fits v p, plain.bare v p e)

      up-load : (v : ℕ) → 1 ≤ count order v → up (link_load ls order x) v ≡ x v
      up-load v p = elim (one-above v p) [
        | inl r ↦ r.1 (link_load ls order x) ∙ sym (root-load v p r.0)
        | inr r ↦ up-link_load x v p r.4
      ]

      sum-load : (v : ℕ) → 1 ≤ count order v → sum_at ls v (link_load ls order x) ≡ x v + children order par v x
      sum-load v p = omega (
        arith,
        links-at v p (link_load ls order x),
        up-load v p,
        children-eq order par v (up (link_load ls order x)) x (λ w k. up-load w k.site),
      )

      good-loads : WholeLoads ls n terminal cap (link_load ls order x)
      good-loads = record {
        below = λ j l. let w = lower j l in omega (arith, link_load-at x j l, g.fits w.site w.here, w.ups cap);
        balanced = λ v m j l a.
            let w = lower j l in
            let q : 1 ≤ count order v = omega (arith, site_in_lem v (at-site ls N.tree.ends j l a)) in
            same? v w.site
            (λ e. omega (arith, link_load-at x j l, sum-load v q, g.up v q m, ap x e))
            (λ d. let far = at_both ls (loopless N.tree) v w.site j w.touches a d in
            let up_one = at_both ls (loopless N.tree) (par w.site) w.site j w.touches w.parent_touches
            (λ e. climbs w.site w.here e) in
            omega (
              arith,
              link_load-at x j l,
              sum-load v q,
              g.down v w.site q m (record { site = w.here; parent = sym up_one ∙ far }),
            ));
        even = λ v p m. let q : 1 ≤ count order v = omega (arith, site_in_lem v p) in
            (sum_at ls v (link_load ls order x) / 2, omega (arith, sum-load v q, g.even v q m));
      }

      load-terminals : at_terminals ls n terminal (link_load ls order x) ≡ at_ends order par (up cap) terminal x
      unfolding at_ends at_terminals
      load-terminals =
          over-same (sites n) order (λ v. is (terminal v) 1 * sum_at ls v (link_load ls order x))
          (λ x p. site_in_lem x (sites-site n x p)) (λ x p. sites_once n x (in_site x p))
          ∙ over-eq order (λ v. is (terminal v) 1 * sum_at ls v (link_load ls order x)) (λ v. is (terminal v) 1 * (x v + children order par v x))
          (λ v p. ap (λ z. is (terminal v) 1 * z) (sum-load v p))

    module _ (X : Solution order par (up cap) terminal) where
      R : Rooted order par (place order)
      R = rooted (parent_of ls order) order plain.taken

      -- the load of each link
      abbrev largest : ℕ → ℕ
      largest j = link_load ls order X.load j

      -- what they bring to the terminals
      pub largest-total : at_terminals ls n terminal largest ≡ at_ends order par (up cap) terminal X.load
      largest-total = load-terminals (solution_good R X)

      pub largest_loads : WholeLoads ls n terminal cap largest
      largest_loads = good-loads (solution_good R X)

      pub largest-best : {l : ℕ → ℕ} → WholeLoads ls n terminal cap l → at_terminals ls n terminal l ≤ at_terminals ls n terminal largest
      largest-best {l} g = omega (arith, ends-terminals l, largest-total, solution_best R X (loads-good g))
