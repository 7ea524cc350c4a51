-- What the walk from a root reaches: sites that no link of another part separates from the root (`Near`).
-- So the pairs of the walk load no link of another part, and they are at most as many as the links of the root's part.
use Rattle.std.specs.Prelude.{◌≡◌, ◌≢◌, length}
use Rattle.std.proofs.Math.Path.{refl, ap}
use Rattle.std.proofs.Common.{sym, ◌∙◌, inl, inr}
use mathlib.Core.List.{List, [], ◌∷◌}
use Prim.Native.Nat.{ℕ, zero, suc, ◌+◌, ◌-◌, ◌*◌, ◌≤◌, ◌<◌, min}
use native.Mathlib.Omega.{arith}
use Rattle.lists.specs.Numbers.{is, differ, sum, over, Each}
use Rattle.lists.specs.Sums.{pick_cases, same?, is_same, is-other, is_le, is_iff, differ_same, differ-other, differ_triangle, sum-none, sum-eq, sum-le, sum_ge}
use Rattle.lists.specs.Places.{over_add, over-eq, over-le, over-is}
use Rattle.lists.specs.Tallies.{tally, tally-mul, each_map, each_both, each-le, each_append}
use Rattle.model.specs.Flows.{Links, Site, sites, one, two, sum_at, Tree, side, separates, load}
use Rattle.model.specs.Trimming.{Balanced}
use Rattle.model.specs.Pairing.{Part, take_halves, drop_halves, halves, match, children, gather, alone, settle, walk, pairs_from}
use Rattle.model.specs.Parts.{region, in_part}
use Rattle.model.specs.declared.Pair.{Pair}
use Rattle.theory_trees.specs.Trees.{separates-same, separates_comm, separates_self, far-one, local}
use Rattle.theory_trees.specs.Sites.{sites_once, sites-site, by_link}
use Rattle.theory_walk.specs.Halves.{length-put, take_thins, drop_thins, thinned_each}
use Rattle.theory_walk.specs.Match.{Matched, match-each}
use Rattle.theory_walk.specs.Subtrees.{LinkAt, Entered, Child}
use Rattle.theory_walk.specs.Children.{children_are, inside, size, size-children, over-tally, inside-children}
use Rattle.theory_walk.specs.Handed.{All, all_nothing, entries, sends, gather-all, settle_few, Few, gather-entries}
use Rattle.theory_walk.specs.Walk.{Start, start-entered, size-le, put-each, room}
use Rattle.theory_walk.specs.Bounds.{gather_short}
use Rattle.theory_walk.specs.Regions.{link-side, region-ends, home-region}

module _ {ls : Links} {n : ℕ} (T : Tree ls n) (t terminal : ℕ → ℕ) (root : ℕ) where
  -- 1 if link i is in the part of the root
  abbrev mine : ℕ → ℕ
  mine i = in_part ls terminal (region ls terminal root) i

  -- the number of links of other parts that separate x from the root
  unfoldable pub stray : ℕ → ℕ
  stray x = sum (length ls) (λ i. differ (mine i) 1 * separates ls i root x)

  abbrev pub Near : ℕ → Type 0
  Near x = stray x ≡ 0

  pub near-link : (x i : ℕ) → Near x → i < length ls → mine i ≢ 1 → separates ls i root x ≡ 0
  unfolding stray
  near-link x i p l d = omega (arith, rw (differ-other d) at (sum_ge (length ls) i (λ i. differ (mine i) 1 * separates ls i root x) l))

  near-all : (x : ℕ) → ((i : ℕ) → i < length ls → mine i ≢ 1 → separates ls i root x ≡ 0) → Near x
  unfolding stray
  near-all x h = sum-eq (length ls) (λ i. differ (mine i) 1 * separates ls i root x) (λ i. 0)
      (λ i l. same? (mine i) 1 (λ e. rw (differ_same e) (omega arith)) (λ d. rw (h i l d) (omega arith)))
      ∙ sum-none (length ls)

  pub near-root : Near root
  near-root = near-all root (λ i l d. separates_self ls i root)

  -- a visited site: near, and of the root's region where it is inner
  abbrev Visited : ℕ → Type 0
  Visited v = Near v × (terminal v ≢ 1 → region ls terminal v ≡ region ls terminal root)

  -- the other site of a link at an inner visited site is visited
  next : (v c k : ℕ) → Visited v → terminal v ≢ 1 → LinkAt ls v k → LinkAt ls c k → Visited c
  next v c k p tv av ac = (
    near-all c (λ i l d. let away : k ≢ i = λ e. d (rw e at mine-k) in
        omega (
          arith,
          near-link v i p.0 l d,
          separates-same ls i v c (link-side ls i k v c av.bound away av.here ac.here),
          triangle i,
        )),
    λ tc. region-ends ls terminal k c v av.bound ac.here av.here tc tv ∙ p.1 tv,
  )
    where
      mine-k : mine k ≡ 1
      mine-k = rw (p.1 tv) at (home-region ls terminal k v av.bound av.here tv)

      triangle : (i : ℕ) → separates ls i root c ≤ separates ls i root v + separates ls i v c
      triangle i = unfold separates in (differ_triangle (side ls i root) (side ls i v) (side ls i c))

  -- ---- the walk stays near

  abbrev NearPair : Pair → Type 0
  NearPair e = Near e.first × Near e.second

  abbrev NearPart : Part → Type 0
  NearPart p = All (λ h. Near h.0) NearPair p

  settle-near : (up down : ℕ) (g : Part) → NearPart g → NearPart (settle up down g)
  unfolding settle
  settle-near up down g h =
      let own = halves g.ups - up in
      record {
        ups_all = thinned_each Near (drop_thins own g.ups) h.ups_all;
        downs_all = thinned_each Near (take_thins down g.downs) h.downs_all;
        pairs-all = each_append NearPair g.pairs (match (take_halves own g.ups) (drop_halves down g.downs)) h.pairs-all
            (each_map (Matched Near Near) NearPair (λ e m. (m.left, m.right)) (match (take_halves own g.ups) (drop_halves down g.downs))
            (match-each Near Near (take_halves own g.ups) (drop_halves down g.downs)
            (thinned_each Near (take_thins own g.ups) h.ups_all) (thinned_each Near (drop_thins down g.downs) h.downs_all)));
      }

  walk-near : (fuel v j up down : ℕ) → Visited v → NearPart (walk ls n t terminal fuel v j up down)
  unfolding walk alone
  walk-near zero v j up down p = all_nothing (λ h. Near h.0) NearPair
  walk-near (suc fuel) v j up down p =
      let visit = walk ls n t terminal fuel in
      let g = gather (λ c k s d. visit c k s d) t (sum_at ls v t - down) (children ls v j 1 n) in
      pick_cases NearPart (terminal v) 1 (alone v up down) (settle up down g)
      (λ e. record { ups_all = put-each Near v up p.0; downs_all = put-each Near v down p.0; pairs-all = tt })
      (λ tv. settle-near up down g (gather-all (λ c k s d. visit c k s d) t (λ e. Child ls n v j e.0 e.1) (λ h. Near h.0) NearPair
      (λ e r c. walk-near fuel e.0 e.1 (sends t e r) (2 * t e.1 - sends t e r) (next v e.0 e.1 p tv c.down.link c.up))
      (sum_at ls v t - down) (children ls v j 1 n) (children_are T v j 1 n)))

  pub root-near : Each NearPair (pairs_from ls n t terminal root)
  unfolding pairs_from
  root-near = (walk-near n root (length ls) 0 0 (near-root, λ d. refl)).pairs-all

  -- so no link of another part is loaded
  far-load : (i : ℕ) → i < length ls → mine i ≢ 1 → (es : List Pair) → Each NearPair es → load ls es i ≡ 0
  unfolding load
  far-load i l d [] p = refl
  far-load i l d (e ∷ es) p =
      let z : separates ls i e.first e.second ≡ 0 = omega (
        arith,
        near-link e.first i p.0.0 l d,
        near-link e.second i p.0.1 l d,
        separates_comm ls i e.first root,
        triangle,
      ) in
      rw z (omega (arith, far-load i l d es p.1))
    where
      triangle : separates ls i e.first e.second ≤ separates ls i e.first root + separates ls i root e.second
      triangle = unfold separates in (differ_triangle (side ls i e.first) (side ls i root) (side ls i e.second))

  pub root-far : (i : ℕ) → i < length ls → mine i ≢ 1 → load ls (pairs_from ls n t terminal root) i ≡ 0
  root-far i l d = far-load i l d (pairs_from ls n t terminal root) root-near

  -- ---- the number of pairs

  -- 1 if x is near, 0 if not
  abbrev near : ℕ → ℕ
  near x = is (stray x) 0

  -- the near sites of the subtree at v below link j
  unfoldable weight : ℕ → ℕ → ℕ
  weight j v = over (sites n) (λ x. near x * inside ls j v x)

  abbrev weights : List (ℕ × ℕ) → ℕ
  weights ks = tally (λ e. weight e.1 e.0) ks

  -- a near site and the weights of its children
  weight-children : (j v : ℕ) → Near v → Entered ls j v → Site n v → weight j v ≡ 1 + weights (children ls v j 1 n)
  unfolding weight
  weight-children j v p en pv =
      let ks = children ls v j 1 n in
      omega (
        arith,
        rw (is_same p) at (over-is (sites n) v near),
        sites_once n v pv,
        over-tally (sites n) ks (λ e x. near x * inside ls e.1 e.0 x),
        over_add (sites n) (λ x. is x v * near x) (λ x. tally (λ e. near x * inside ls e.1 e.0 x) ks),
        over-eq (sites n) (λ x. near x * inside ls j v x) (λ x. is x v * near x + tally (λ e. near x * inside ls e.1 e.0 x) ks)
            (λ x m. omega (
              arith,
              ap (λ s. near x * s) (inside-children T v j x en pv (sites-site n x m)),
              tally-mul (near x) (λ e. inside ls e.1 e.0 x) ks,
            )),
      )

  module _ (B : Balanced ls terminal t) where
    walk-few : (fuel v j up down : ℕ) → Site n v → Visited v → Start ls t terminal j v up down → size ls n j v ≤ fuel
        → entries (walk ls n t terminal fuel v j up down) + 1 ≤ weight j v + min 1 up + min 1 down
    unfolding walk alone
    walk-few zero v j up down pv p st l = absurd (omega (arith, size-children T v j (start-entered ls t terminal j v up down st) pv))
    walk-few (suc fuel) v j up down pv p st l =
        let en = start-entered ls t terminal j v up down st in
        let ks = children ls v j 1 n in
        let r = sum_at ls v t - down in
        let visit : ℕ → ℕ → ℕ → ℕ → Part = λ c k s d. walk ls n t terminal fuel c k s d in
        let g = gather visit t r ks in
        pick_cases (λ q. entries q + 1 ≤ weight j v + min 1 up + min 1 down) (terminal v) 1 (alone v up down) (settle up down g)
        (λ e. omega (arith, length-put v up [], length-put v down [], weight-children j v p.0 en pv))
        (λ tv.
        let G = gather_short T t terminal B fuel v j up down pv st tv l in
        let q = room T t terminal B j v up down tv st in
        let heavy : ℕ × ℕ → ℕ = λ e. weight e.1 e.0 in
        let few : Each (Few visit t heavy) ks = each_both (λ e. Child ls n v j e.0 e.1) (λ e. size ls n e.1 e.0 ≤ fuel) (Few visit t heavy)
        (λ e c m s d o. walk-few fuel e.0 e.1 s d c.site (next v e.0 e.1 p tv c.down.link c.up) (inl (c.up, o)) m)
        ks (children_are T v j 1 n) (each-le (λ e. size ls n e.1 e.0) fuel ks (omega (arith, size-children T v j en pv))) in
        omega (
          arith,
          weight-children j v p.0 en pv,
          settle_few up down (r - up) g (weights ks) (omega (arith, G.ups_sum)) (omega (arith, G.downs_sum))
              (omega (arith, ap (min 1) G.ups_sum, gather-entries visit t heavy r ks few)),
        ))

  -- ---- near sites and links of the part

  -- of the two sites of a link of the part one is farther from the root, and of another link neither is near and farther
  per_link : (i : ℕ) → Site n root → i < length ls
      → near (one ls i) * separates ls i (one ls i) root + near (two ls i) * separates ls i (two ls i) root ≤ mine i
  per_link i pr l = same? (mine i) 1
      (λ e. rw e (bits (near (one ls i)) (near (two ls i)) (separates ls i (one ls i) root) (separates ls i (two ls i) root)
      (is_le (stray (one ls i)) 0) (is_le (stray (two ls i)) 0) (far-one T i root l pr)))
      (λ d. omega (arith, none d (one ls i), none d (two ls i)))
    where
      bits : (p q a b : ℕ) → p ≤ 1 → q ≤ 1 → a + b ≡ 1 → p * a + q * b ≤ 1
      bits p q a b u w e = same? p 0
          (λ z. rw z (same? q 0 (λ o. rw o (omega arith)) (λ o. let x : q ≡ 1 = omega arith in rw x (omega arith))))
          (λ z. let y : p ≡ 1 = omega arith in rw y (same? q 0 (λ o. rw o (omega arith)) (λ o. let x : q ≡ 1 = omega arith in rw x (omega arith))))

      none : mine i ≢ 1 → (x : ℕ) → near x * separates ls i x root ≡ 0
      none d x = same? (stray x) 0
          (λ p. rw (separates_comm ls i x root ∙ near-link x i p l d) (omega arith))
          (λ p. rw (is-other p) (omega arith))

  -- so there is at most one near site more than links of the part
  near-count : Site n root → over (sites n) near ≤ 1 + sum (length ls) mine
  near-count pr = omega (
    arith,
    by_link T near (λ x i. separates ls i x root),
    sum-le (length ls) (λ i. near (one ls i) * separates ls i (one ls i) root + near (two ls i) * separates ls i (two ls i) root) mine
        (λ i l. per_link i pr l),
    over-is (sites n) root near,
    rw (sites_once n root pr) at (over-is (sites n) root near),
    is_le (stray root) 0,
    over_add (sites n) (λ x. near x * sum_at ls x (λ i. separates ls i x root)) (λ x. is x root * near x),
    over-eq (sites n) near (λ x. near x * sum_at ls x (λ i. separates ls i x root) + is x root * near x)
        (λ x m. omega (arith, ap (λ s. near x * s) (local T x root (sites-site n x m) pr), ap (λ s. near x * s) (is_comm root x))),
  )
    where
      is_comm : (u v : ℕ) → is u v ≡ is v u
      is_comm u v = is_iff u v v u (λ e. sym e) (λ e. sym e)

  -- so there are at most as many pairs as links of the part
  pub root_few : Balanced ls terminal t → Site n root → terminal root ≢ 1 → length (pairs_from ls n t terminal root) ≤ sum (length ls) mine
  unfolding pairs_from weight inside
  root_few B pr d = omega (
    arith,
    walk-few B n root (length ls) 0 0 pr (near-root, λ d. refl) (inr (refl, d, omega arith)) (size-le ls n (length ls) root),
    over-le (sites n) (λ x. near x * inside ls (length ls) root x) near (λ x m. shrink (near x) (separates ls (length ls) root x)),
    near-count pr,
  )
    where
      shrink : (a b : ℕ) → a * (1 - b) ≤ a
      shrink a b = same? b 0 (λ e. rw e (omega arith)) (λ e. let z : 1 - b ≡ 0 = omega arith in rw z (omega arith))
