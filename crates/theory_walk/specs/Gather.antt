-- What the children of a site hand back together: the parts are good, child by child, so sums over them are sums over links.
-- Where sites stand in the joined lists is told by places, found along the children (`gather-places`).
use Rattle.std.specs.Prelude.{◌≡◌, ◌≢◌, ◌⊎◌, ℕ, ◌+◌, ◌-◌, ◌*◌, ◌≤◌, ◌<◌, min, length}
use Rattle.std.proofs.Math.Path.{refl}
use Rattle.std.proofs.Common.{sym, ◌∙◌, inl, inr}
use mathlib.Core.List.{List, [], ◌∷◌, ◌++◌}
use native.Mathlib.Omega.{arith}
use Rattle.std.proofs.Math.Decide.{dec_le}
use Rattle.lists.specs.Numbers.{is, Each}
use Rattle.model.specs.Flows.{Links, Site, one, Tree, separates}
use Rattle.model.specs.Pairing.{Halves, Part, take_halves, drop_halves, halves, joins, gather}
use Rattle.lists.specs.Sums.{cases, same?, is_same, is-other}
use Rattle.theory_trees.specs.Trees.{separates-le}
use Rattle.lists.specs.Tallies.{tally, tally-append, tally-mul, tally-zero, each_map}
use Rattle.theory_walk.specs.Sound.{arises}
use Rattle.theory_walk.specs.Halves.{halves_at, at_split, at_none, halves-append, halves-take, halves-drop, take_past, drop_past, drop-first}
use Rattle.theory_walk.specs.Subtrees.{LinkAt, Entered, Down, Child, Within, Branch, Joins, three, far, single, one_way, not_parent}
use Rattle.theory_walk.specs.Children.{joins-none, links, sizes, size}
use Rattle.theory_walk.specs.Handed.{Open, In, Reaching, Made, All, entries, loading, Good, up-tally, down-tally, pair-tally, halves_additive}
use Rattle.theory_walk.specs.Handed.{loading_additive}
use Rattle.theory_walk.specs.Handed.{sends, visited, gather-all, gather-le, gather-eq, Few, gather-entries}

-- ---- the order of children

-- kg comes first of the two in the list, or they are one
abbrev pub Order : ℕ → ℕ → List (ℕ × ℕ) → Type 0
Order kg kf [] = Unit {0}
Order kg kf (e ∷ ks) = e.1 ≢ kg → (e.1 ≢ kf) × Order kg kf ks

pub order_total : (a b : ℕ) (ks : List (ℕ × ℕ)) → a ≢ b → Order a b ks ⊎ Order b a ks
order_total a b [] d = inl tt
order_total a b (e ∷ ks) d = same? e.1 a
    (λ p. inl (λ q. absurd (q p)))
    (λ p. same? e.1 b
    (λ q. inr (λ r. absurd (r q)))
    (λ q. elim (order_total a b ks d) [ inl o ↦ inl (λ r. (q, o)) | inr o ↦ inr (λ r. (p, o)) ]))

pub order_same : (k : ℕ) (ks : List (ℕ × ℕ)) → Order k k ks
order_same k [] = tt
order_same k (e ∷ ks) = λ d. (d, order_same k ks)

-- a site v below link j, and what visits its children
pub record Node (ls : Links) (n : ℕ) : Type 0 where
  pub tree : Tree ls n
  pub t : ℕ → ℕ
  pub terminal : ℕ → ℕ
  pub v : ℕ
  pub j : ℕ
  pub site : Site n v
  pub entered : Entered ls j v
  pub visit : ℕ → ℕ → ℕ → ℕ → Part

module _ {ls : Links} {n : ℕ} (N : Node ls n) where
  open N use {tree as T, t, terminal, v, j, site as pv, entered as en, visit}

  -- a child whose visit hands back a good part, however its amount is split
  pub record Ready (e : ℕ × ℕ) : Type 0 where
    pub child : Child ls n v j e.0 e.1
    pub good : (s d : ℕ) → s + d ≡ 2 * t e.1 → Good ls n t terminal e.1 e.0 s d (visit e.0 e.1 s d)

  sent : (e : ℕ × ℕ) (r : ℕ) → Ready e → Good ls n t terminal e.1 e.0 (sends t e r) (2 * t e.1 - sends t e r) (visited visit t e r)
  sent e r h = h.good (sends t e r) (2 * t e.1 - sends t e r) (omega arith)

  -- ---- how many halves, and in how many entries

  pub ups_halves : (r : ℕ) (ks : List (ℕ × ℕ)) → Each Ready ks → halves (gather visit t r ks).ups ≡ min r (tally (λ e. 2 * t e.1) ks)
  unfolding gather tally halves
  ups_halves r [] h = omega arith
  ups_halves r (e ∷ ks) h = omega (
    arith,
    halves-append (visited visit t e r).ups (gather visit t (r - sends t e r) ks).ups,
    (sent e r h.0).up-halves,
    ups_halves (r - sends t e r) ks h.1,
  )

  pub both_halves : (r : ℕ) (ks : List (ℕ × ℕ)) → Each Ready ks
      → halves (gather visit t r ks).ups + halves (gather visit t r ks).downs ≡ tally (λ e. 2 * t e.1) ks
  both_halves = gather-eq visit t Ready (λ p. halves p.ups + halves p.downs) halves_additive (λ e. 2 * t e.1)
      (λ e r h. omega (arith, (sent e r h).up-halves, (sent e r h).down-halves))

  pub gather_few : (r : ℕ) (ks : List (ℕ × ℕ)) → Each Ready ks → entries (gather visit t r ks) ≤ sizes ls n ks + min 1 r
  gather_few r ks h = gather-entries visit t (λ e. size ls n e.1 e.0) r ks
      (each_map Ready (Few visit t (λ e. size ls n e.1 e.0)) (λ e q s d o. (q.good s d o).few) ks h)

  -- ---- every entry and every pair, seen from v

  -- a site of a child's subtree is beyond that child's link alone
  beyond : (e : ℕ × ℕ) (x : ℕ) → Ready e → Site n x → separates ls e.1 e.0 x ≡ 0 → separates ls e.1 v x ≡ 1
  beyond e x h p c = omega (arith, three T e.1 v e.0 x h.child.up.bound pv h.child.site p, h.child.beyond, separates-le ls e.1 v x)

  below : (e : ℕ × ℕ) (x : ℕ) → Ready e → Site n x → separates ls e.1 v x ≡ 1 → separates ls e.1 e.0 x ≡ 0
  below e x h p c = omega (arith, three T e.1 v e.0 x h.child.up.bound pv h.child.site p, h.child.beyond, separates-le ls e.1 e.0 x)

  lift : (e : ℕ × ℕ) (x : ℕ) → Ready e → Site n x → separates ls e.1 e.0 x ≡ 0 → separates ls j v x ≡ 0
  lift e x h p c = not_parent T v j e.1 x en pv p h.child.down (beyond e x h p c)

  -- x is a terminal of the subtree at v, and beyond its own link at v no other terminal stands between x and v
  pub record Clear (x : ℕ) : Type 0 where
    pub within : In ls n terminal j v x
    pub clear : (k y i w : ℕ) → LinkAt ls v k → separates ls k v x ≡ 1 → Site n y → terminal y ≡ 1 → y ≢ x → separates ls k v y ≡ 1
        → LinkAt ls y i → Site n w → separates ls k v w ≡ 0 → separates ls i x w ≡ 0

  clear_child : (e : ℕ × ℕ) (x : ℕ) → Ready e → Reaching ls n terminal e.1 e.0 x → Clear x
  clear_child e x h p = record {
    within = record { site = p.within.site; ends = p.within.ends; inner = lift e x h p.within.site p.within.inner };
    clear = λ k y i w ak cx py ty d cy ai pw cw.
        let q = one_way T v x k e.1 pv p.within.site ak h.child.down.link cx (beyond e x h p.within.site p.within.inner) in
        p.free y i w (record { site = py; ends = ty; inner = below e y h py (rw q at cy) }) d ai pw
        (omega (arith, three T e.1 v e.0 w h.child.up.bound pv h.child.site pw, h.child.beyond, rw q at cw, separates-le ls e.1 e.0 w));
  }

  pub gather_in : (r : ℕ) (ks : List (ℕ × ℕ)) → Each Ready ks → All (λ h. Clear h.0) (Made ls n terminal j v) (gather visit t r ks)
  gather_in = gather-all visit t Ready (λ h. Clear h.0) (Made ls n terminal j v) (λ e r h.
      let entry : (x : ℕ × ℕ) → Reaching ls n terminal e.1 e.0 x.0 → Clear x.0 = λ x. clear_child e x.0 h in
      let a = visited visit t e r in
      let g = (sent e r h).all in
      record {
        ups_all = each_map (λ x. Reaching ls n terminal e.1 e.0 x.0) (λ x. Clear x.0) entry a.ups g.ups_all;
        downs_all = each_map (λ x. Reaching ls n terminal e.1 e.0 x.0) (λ x. Clear x.0) entry a.downs g.downs_all;
        pairs-all = each_map (Made ls n terminal e.1 e.0) (Made ls n terminal j v) (λ q m. record {
          route = m.route;
          left = lift e q.first h m.route.first-site m.left;
          right = lift e q.second h m.route.second-site m.right;
          positive = m.positive;
        }) a.pairs g.pairs-all;
      })

  -- ---- what lies beyond one link m at v

  -- f is 0 at every site that is not beyond link m
  abbrev pub LocalTo : ℕ → (ℕ → ℕ) → Type 0
  LocalTo m f = (x : ℕ) → Site n x → separates ls m v x ≡ 0 → f x ≡ 0

  module _ (m : ℕ) (am : LinkAt ls v m) where
    -- another child's subtree is not beyond m
    elsewhere : (e : ℕ × ℕ) (x : ℕ) → Ready e → e.1 ≢ m → Site n x → separates ls e.1 e.0 x ≡ 0 → separates ls m v x ≡ 0
    elsewhere e x h d p c = single T v e.1 m x pv p h.child.down.link (beyond e x h p c) am d

    vanish : (f : ℕ → ℕ) → LocalTo m f → (e : ℕ × ℕ) (l : Halves) → Ready e → e.1 ≢ m → Each (λ h. Reaching ls n terminal e.1 e.0 h.0) l
        → Each (λ h. f h.0 ≡ 0) l
    vanish f loc e l h d = each_map (λ h. Reaching ls n terminal e.1 e.0 h.0) (λ h. f h.0 ≡ 0)
        (λ x q. loc x.0 q.within.site (elsewhere e x.0 h d q.within.site q.within.inner)) l

    vanish-halves : (f : ℕ → ℕ) → LocalTo m f → (e : ℕ × ℕ) (l : Halves) → Ready e → e.1 ≢ m → Each (λ h. Reaching ls n terminal e.1 e.0 h.0) l
        → halves_at f l ≡ 0
    vanish-halves f loc e l h d p = tally-zero (λ x. x.1 * f x.0) l
        (each_map (λ x. f x.0 ≡ 0) (λ x. x.1 * f x.0 ≡ 0) (λ x z. rw z (omega arith)) l (vanish f loc e l h d p))

    downs-vanish : (f : ℕ → ℕ) → LocalTo m f → (r : ℕ) (ks : List (ℕ × ℕ)) → Each Ready ks → links m ks ≡ 0 → halves_at f (gather visit t r ks).downs ≡ 0
    unfolding gather tally
    downs-vanish f loc r [] h o = refl
    downs-vanish f loc r (e ∷ ks) h o = omega (
      arith,
      tally-append (λ h. h.1 * f h.0) (visited visit t e r).downs (gather visit t (r - sends t e r) ks).downs,
      vanish-halves f loc e (visited visit t e r).downs h.0 (λ z. omega (arith, is_same z)) (sent e r h.0).all.downs_all,
      downs-vanish f loc (r - sends t e r) ks h.1 (omega arith),
    )

    -- the load of a link i beyond m, seen from a site w that is beyond no child's link
    pub gather_loads : (i w : ℕ) → i < length ls → Site n w → Branch ls m v i → ((k : ℕ) → Down ls v j k → separates ls k v w ≡ 0) → separates ls m v w ≡ 0
        → Open ls n terminal w i → (r : ℕ) (ks : List (ℕ × ℕ)) → Each Ready ks → loading ls w i (gather visit t r ks) ≡ 2 * t i * links m ks
    gather_loads i w li pw br out mw op r ks h = gather-eq visit t Ready (loading ls w i) (loading_additive ls w i) (λ e. 2 * t i * is e.1 m) part r ks h
        ∙ tally-mul (2 * t i) (λ e. is e.1 m) ks
      where
        loc : LocalTo m (separates ls i w)
        loc x px c = far T i m v w x li am.bound pv pw px br mw c

        within : (e : ℕ × ℕ) → Ready e → e.1 ≡ m → Branch ls m v i → Within ls e.1 e.0 i
        within e h q (inl z) = inl (z ∙ sym q)
        within e h q (inr z) = inr (below e (one ls i) h (T.ends i li).0 (rw q z))

        part : (e : ℕ × ℕ) (r : ℕ) → Ready e → loading ls w i (visited visit t e r) ≡ 2 * t i * is e.1 m
        part e r h =
            let g = sent e r h in
            let c = h.child in
            same? e.1 m
            (λ q. rw (is_same q) (omega (
              arith,
              g.loads w i pw
                  (inl (omega (
                    arith,
                    three T e.1 v e.0 w c.up.bound pv c.site pw,
                    c.beyond,
                    out e.1 c.down,
                    separates-le ls e.1 e.0 w,
                  )))
                  li (within e h q br) op,
            )))
            (λ d. rw (is-other d) (omega (
              arith,
              vanish-halves (separates ls i w) loc e (visited visit t e r).ups h d g.all.ups_all,
              vanish-halves (separates ls i w) loc e (visited visit t e r).downs h d g.all.downs_all,
              tally-zero (λ a. a.amount * separates ls i a.first a.second) (visited visit t e r).pairs
                  (each_map (Made ls n terminal e.1 e.0) (λ a. a.amount * separates ls i a.first a.second ≡ 0)
                  (λ a p. rw (far T i m v a.first a.second li am.bound pv p.route.first-site p.route.second-site br
                  (elsewhere e a.first h d p.route.first-site p.left) (elsewhere e a.second h d p.route.second-site p.right))
                  (omega arith))
                  (visited visit t e r).pairs g.all.pairs-all),
            )))

    -- ---- how often a site x beyond m stands in the joined lists

    module _ (x : ℕ) (o : separates ls m v x ≡ 1) where
      here : LocalTo m (λ y. is y x)
      here y p q = is-other {u = y} {v = x} (λ e. omega (arith, rw e at q))

      absent : (e : ℕ × ℕ) (l : Halves) → Ready e → e.1 ≢ m → Each (λ h. Reaching ls n terminal e.1 e.0 h.0) l → tally (λ h. is h.0 x) l ≡ 0
      absent e l h d p = tally-zero (λ h. is h.0 x) l (vanish (λ y. is y x) here e l h d p)

      pub gather_ups_once : (r : ℕ) (ks : List (ℕ × ℕ)) → Each Ready ks → tally (λ h. is h.0 x) (gather visit t r ks).ups ≤ links m ks
      gather_ups_once = gather-le visit t Ready (λ p. tally (λ h. is h.0 x) p.ups) (up-tally (λ h. is h.0 x)) (λ e. is e.1 m) (λ e r h.
          let g = sent e r h in
          same? e.1 m
          (λ q. omega (arith, is_same q, g.ups_once x))
          (λ d. omega (arith, absent e (visited visit t e r).ups h d g.all.ups_all)))

      pub gather_downs_once : (r : ℕ) (ks : List (ℕ × ℕ)) → Each Ready ks → tally (λ h. is h.0 x) (gather visit t r ks).downs ≤ links m ks
      gather_downs_once = gather-le visit t Ready (λ p. tally (λ h. is h.0 x) p.downs) (down-tally (λ h. is h.0 x)) (λ e. is e.1 m) (λ e r h.
          let g = sent e r h in
          same? e.1 m
          (λ q. omega (arith, is_same q, g.downs_once x))
          (λ d. omega (arith, absent e (visited visit t e r).downs h d g.all.downs_all)))

      -- and in a pair with y only if y is beyond m too
      pub gather_pairs_once : (y r : ℕ) (ks : List (ℕ × ℕ)) → Each Ready ks → arises (gather visit t r ks).pairs x y ≤ separates ls m v y * links m ks
      gather_pairs_once y r ks h = omega (
        arith,
        tally-mul (separates ls m v y) (λ e. is e.1 m) ks,
        gather-le visit t Ready (λ p. arises p.pairs x y) (pair-tally (λ e. joins (e.first, e.second) x y))
            (λ e. separates ls m v y * is e.1 m) part r ks h,
      )
        where
          -- no pair of a child has site z where none of its sites is
          none : (e : ℕ × ℕ) (r z : ℕ) → Ready e → ((u : ℕ) → Site n u → separates ls e.1 e.0 u ≡ 0 → u ≢ z) → (z ≡ x) ⊎ (z ≡ y)
              → arises (visited visit t e r).pairs x y ≡ 0
          none e r z h away w = tally-zero (λ a. joins (a.first, a.second) x y) (visited visit t e r).pairs
              (each_map (Made ls n terminal e.1 e.0) (λ a. joins (a.first, a.second) x y ≡ 0)
              (λ a p. joins-none (a.first, a.second) x y
              (off w (away a.first p.route.first-site p.left) (away a.second p.route.second-site p.right)))
              (visited visit t e r).pairs (sent e r h).all.pairs-all)
            where
              off : {a b : ℕ} → (z ≡ x) ⊎ (z ≡ y) → a ≢ z → b ≢ z → ¬ Joins (a, b) x y
              off (inl q) p s (inl j) = p (j.0 ∙ sym q)
              off (inl q) p s (inr j) = s (j.1 ∙ sym q)
              off (inr q) p s (inl j) = s (j.1 ∙ sym q)
              off (inr q) p s (inr j) = p (j.0 ∙ sym q)

          part : (e : ℕ × ℕ) (r : ℕ) → Ready e → arises (visited visit t e r).pairs x y ≤ separates ls m v y * is e.1 m
          part e r h = same? e.1 m
              (λ q. same? (separates ls m v y) 1
              (λ z. rw (is_same q, z) (omega (arith, (sent e r h).pairs_once x y)))
              (λ z. omega (
                arith,
                separates-le ls m v y,
                none e r y h (λ u p s i. omega (arith, separates-le ls m v y, rw (i, q) at (beyond e u h p s))) (inr refl),
              )))
              (λ d. omega (arith, none e r x h (λ u p s i. omega (arith, rw i at (elsewhere e u h d p s))) (inl refl)))

  -- ---- where they stand

  -- a place a before which the up list has no site of f, and q halves later the down list none of g any more:
  -- f lives beyond link kf, g beyond link kg, and kg is no later than kf
  pub gather-places : (f g : ℕ → ℕ) (kf kg : ℕ) → LinkAt ls v kf → LinkAt ls v kg → LocalTo kf f → LocalTo kg g
      → (r q : ℕ) (ks : List (ℕ × ℕ)) → Each Ready ks → 2 * t kg ≤ r + q → links kg ks ≤ 1 → Order kg kf ks
      → (a : ℕ) × (halves_at f (take_halves a (gather visit t r ks).ups) ≡ 0) × (halves_at g (drop_halves (a + q) (gather visit t r ks).downs) ≡ 0)
  unfolding gather tally take_halves drop_halves
  gather-places f g kf kg af ag locf locg r q [] h b o w = (0, refl, refl)
  gather-places f g kf kg af ag locf locg r q (e ∷ ks) h b o w =
      let s = sends t e r in
      let good = sent e r h.0 in
      let U = (visited visit t e r).ups in
      let D = (visited visit t e r).downs in
      let U' = (gather visit t (r - s) ks).ups in
      let D' = (gather visit t (r - s) ks).downs in
      same? e.1 kg
      (λ z. (
        0,
        at_none f (take_halves 0 (U ++ U')) (omega (arith, halves-take 0 (U ++ U'))),
        drop-first g D D' (0 + q) (omega (arith, good.down-halves, rw (← z) at b)) (downs-vanish kg ag g locg (r - s) ks h.1 (omega (arith, is_same z))),
      ))
      (λ d. let un = vanish-halves kf af f locf e U h.0 (w d).0 good.all.ups_all in
      cases (dec_le (2 * t e.1) r)
      (λ l. let ih = gather-places f g kf kg af ag locf locg (r - s) (q + halves U) ks h.1 (omega (arith, good.up-halves)) (omega arith) (w d).1 in (
        ih.0 + halves U,
        take_past f U U' ih.0 un ih.1,
        drop_past g D D' (ih.0 + halves U + q) (omega (arith, good.down-halves))
            (let z : ih.0 + halves U + q ≡ ih.0 + (q + halves U) = omega arith in rw z ih.2),
      ))
      (λ l. let a = halves (D ++ D') in (
        a,
        omega (arith, at_split f a (U ++ U'), tally-append (λ h. h.1 * f h.0) U U', at_none f U' (omega (arith, ups_halves (r - s) ks h.1))),
        at_none g (drop_halves (a + q) (D ++ D')) (omega (arith, halves-drop (a + q) (D ++ D'))),
      )))
