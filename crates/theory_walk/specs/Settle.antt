-- An inner site: what it hands back, once its children's lists are split and matched.
-- A matched pair joins two different children, the earlier one on the up side (`parted`): loads add up and no pair arises twice.
use Rattle.std.specs.Prelude.{◌≡◌, ◌≢◌, ℕ, ◌+◌, ◌-◌, ◌*◌, ◌≤◌, ◌<◌, min, length}
use Rattle.std.proofs.Common.{sym, ap, ◌∙◌}
use Rattle.std.proofs.Math.Logic.{inl, inr}
use mathlib.Core.List.{List, [], ◌∷◌}
use native.Mathlib.Omega.{arith}
use Rattle.lists.specs.Numbers.{is, Each}
use Rattle.model.specs.Flows.{Links, Site, at, sum_at, others, separates}
use Rattle.model.specs.Trimming.{Light}
use Rattle.model.specs.Pairing.{Halves, Part, take_halves, drop_halves, halves, match, joins, children, gather, settle}
use Rattle.model.specs.declared.Pair.{Pair}
use Rattle.lists.specs.Sums.{pick_other, pick_cases, same?, is-other, is_one, is_le}
use Rattle.theory_trees.specs.Trees.{separates-le, separates_comm, at-le, others-add}
use Rattle.lists.specs.Tallies.{tally, tally-append, tally-add, tally-mul, tally-zero, tally-eq, tally-le, tally-some, each_map, each_both, each_append}
use Rattle.theory_walk.specs.Sound.{arises}
use Rattle.theory_walk.specs.Halves.{halves_at, at_split, at_all, halves-take, halves-drop, take-front, drop-drop, take_thins, drop_thins, thinned_each}
use Rattle.theory_walk.specs.Halves.{thinned_tally}
use Rattle.theory_walk.specs.Match.{flow, times, Matched, match_firsts, match_seconds, match-apart, match-each, match-times, times-flow}
use Rattle.theory_walk.specs.Subtrees.{three, either_side, LinkAt, Entered, Down, Within, Branch, Outside, far, aside, single, outside, branch_site}
use Rattle.theory_walk.specs.Subtrees.{branch_link, separates-nothing}
use Rattle.theory_walk.specs.Children.{joins-ends, joins-one, joins-le, links, sizes, children-links, children-others, size-children}
use Rattle.theory_walk.specs.Handed.{Open, In, Reaching, Made, All, loading, Good, settle_few}
use Rattle.theory_walk.specs.Gather.{Order, order_same, order_total, Node, Ready, Clear, LocalTo, ups_halves, both_halves, gather_few, gather_in}
use Rattle.theory_walk.specs.Gather.{gather_loads}
use Rattle.theory_walk.specs.Gather.{gather-places, gather_ups_once, gather_downs_once, gather_pairs_once}

module _ {ls : Links} {n : ℕ} (N : Node ls n) where
  open N use {tree as T, t, terminal, v, j, site as pv, entered as en, visit}

  -- v is inner, no link is heavy at it, `up` and `down` are twice the capacity of its parent's link together, and the children's visits are good
  pub record Inner (up down : ℕ) : Type 0 where
    pub not-terminal : terminal v ≢ 1
    pub light : Light ls v t
    pub room : up + down ≤ sum_at ls v t
    pub amount : up + down + 2 * others ls v j t ≡ 2 * sum_at ls v t
    pub ready : Each (Ready N) (children ls v j 1 n)

  module _ (up down : ℕ) (I : Inner up down) where
    open I use {not-terminal as tv, light, room, amount, ready}

    abbrev ks : List (ℕ × ℕ)
    ks = children ls v j 1 n

    abbrev r : ℕ
    r = sum_at ls v t - down

    abbrev G : Part
    G = gather visit t r ks

    -- the matched part of the up list, and of the down list
    abbrev own : ℕ
    own = halves G.ups - up

    abbrev us : Halves
    us = take_halves own G.ups

    abbrev ds : Halves
    ds = drop_halves down G.downs

    amounts : tally (λ e. 2 * t e.1) ks ≡ 2 * others ls v j t
    amounts = omega (arith, tally-mul 2 (λ e. t e.1) ks, children-others T v j t)

    pub ups_are : halves G.ups ≡ sum_at ls v t - down
    ups_are = omega (arith, ups_halves N r ks ready, amounts)

    pub downs_are : halves G.downs ≡ sum_at ls v t - up
    downs_are = omega (arith, both_halves N r ks ready, amounts, ups_are)

    ups-settled : halves (settle up down G).ups ≡ up
    unfolding settle
    ups-settled = omega (arith, halves-drop own G.ups, ups_are)

    downs-settled : halves (settle up down G).downs ≡ down
    unfolding settle
    downs-settled = omega (arith, halves-take down G.downs, downs_are)

    left : halves us ≡ own
    left = omega (arith, halves-take own G.ups)

    right : halves ds ≡ own
    right = omega (arith, halves-drop down G.downs, downs_are, ups_are)

    once : (k : ℕ) → k < length ls → links k ks ≤ 1
    once k l = rw (children-links T v j k l) (pick_cases (λ r. r ≤ 1) k j 0 (at ls v k) (λ e. omega arith) (λ d. at-le ls v k))

    all : All (λ h. Clear N h.0) (Made ls n terminal j v) G
    all = gather_in N r ks ready

    new_in : Each (Matched (Clear N) (Clear N)) (match us ds)
    new_in = match-each (Clear N) (Clear N) us ds
        (thinned_each (Clear N) (take_thins own G.ups) all.ups_all)
        (thinned_each (Clear N) (drop_thins down G.downs) all.downs_all)

    branch : (x : ℕ) → In ls n terminal j v x → (k : ℕ) × Down ls v j k × (separates ls k v x ≡ 1)
    branch x p = branch_site T v j x pv p.site (λ e. tv (rw e at p.ends)) p.inner

    -- ---- a matched pair joins two children, the earlier one on the up side

    -- no new pair runs from beyond link kf to beyond link kg, where kg is kf or comes before it
    parted : (f g : ℕ → ℕ) (kf kg : ℕ) → LinkAt ls v kf → LinkAt ls v kg → LocalTo N kf f → LocalTo N kg g → Order kg kf ks
        → flow (λ x y. f x * g y) (match us ds) ≡ 0
    parted f g kf kg af ag locf locg w =
        let place = gather-places N f g kf kg af ag locf locg r down ks ready (omega (arith, light kg ag.bound ag.here)) (once kg ag.bound) w in
        match-apart f g place.0 us ds (take-front f place.0 own G.ups place.1) (rw (drop-drop place.0 down G.downs) place.2)

    -- no link at v has both sites of a new pair beyond it
    abbrev Crossing : Pair → Type 0
    Crossing e = (m : ℕ) → LinkAt ls v m → separates ls m v e.first * separates ls m v e.second ≡ 0

    crossing : (es : List Pair) → ((m : ℕ) → LinkAt ls v m → times (λ a b. separates ls m v a * separates ls m v b) es ≡ 0) → Each Crossing es
    unfolding tally
    crossing [] h = tt
    crossing (e ∷ es) h = ((λ m a. omega (arith, h m a)), crossing es (λ m a. omega (arith, h m a)))

    new-cross : Each Crossing (match us ds)
    new-cross = crossing (match us ds) (λ m a. omega (
      arith,
      times-flow (Clear N) (Clear N) (λ a b. separates ls m v a * separates ls m v b) (match us ds) new_in,
      parted (separates ls m v) (separates ls m v) m m a a (λ x px c. c) (λ x px c. c) (order_same m ks),
    ))

    -- ---- every entry and every pair

    -- no other terminal stands between an entry and what is outside the subtree at v
    stays : (x : ℕ) → Clear N x → Reaching ls n terminal j v x
    stays x c = record {
      within = c.within;
      free = λ y i w p d ai pw cw.
          let b = branch x c.within in
          let m = branch y p in
          let out : (k : ℕ) → Down ls v j k → separates ls k v w ≡ 0 = λ k. outside T v j k w en pv pw (inl cw) in
          same? b.0 m.0
          (λ e. c.clear b.0 y i w b.1.link b.2 p.site p.ends d (rw e m.2) ai pw (out b.0 b.1))
          (λ e. aside T i m.0 v y x w ai.bound m.1.link.bound pv c.within.site pw ai.here m.2
          (single T v b.0 m.0 x pv c.within.site b.1.link b.2 m.1.link e) (out m.0 m.1));
    }

    -- nor between the sites of a new pair: beyond the one's link, beyond the other's, or beside both
    new-free : (e : Pair) → Clear N e.first → Clear N e.second → Crossing e
        → (y i : ℕ) → Site n y → terminal y ≡ 1 → y ≢ e.first → y ≢ e.second → LinkAt ls y i → separates ls i e.first e.second ≡ 0
    new-free e ca cb cross y i py ty da db ai = same? (separates ls j v y) 1
        (λ c. parent c en)
        (λ c. let m = branch y (record { site = py; ends = ty; inner = omega (arith, separates-le ls j v y) }) in
        let A = branch a pa in
        let B = branch b pb in
        let ab : separates ls A.0 v b ≡ 0 = omega (arith, rw A.2 at (cross A.0 A.1.link)) in
        let ba : separates ls B.0 v a ≡ 0 = omega (arith, rw B.2 at (cross B.0 B.1.link)) in
        same? A.0 m.0
        (λ q. ca.clear A.0 y i b A.1.link A.2 py ty da (rw q m.2) ai pb.site ab)
        (λ q. same? B.0 m.0
        (λ o. separates_comm ls i a b ∙ cb.clear B.0 y i a B.1.link B.2 py ty db (rw o m.2) ai pa.site ba)
        (λ o. aside T i m.0 v y a b ai.bound m.1.link.bound pv pa.site pb.site ai.here m.2
        (single T v A.0 m.0 a pv pa.site A.1.link A.2 m.1.link q)
        (single T v B.0 m.0 b pv pb.site B.1.link B.2 m.1.link o))))
      where
        a : ℕ
        a = e.first

        b : ℕ
        b = e.second

        pa : In ls n terminal j v a
        pa = ca.within

        pb : In ls n terminal j v b
        pb = cb.within

        parent : separates ls j v y ≡ 1 → Entered ls j v → separates ls i a b ≡ 0
        parent c (inl q) = aside T i j v y a b ai.bound q.bound pv pa.site pb.site ai.here c pa.inner pb.inner
        parent c (inr q) = absurd (omega (arith, rw q at c, separates-nothing T v y pv py))

    new-made : Each (Made ls n terminal j v) (match us ds)
    new-made = each_both (Matched (Clear N) (Clear N)) Crossing (Made ls n terminal j v) (λ e p cross.
        let a = p.left.within in
        let b = p.right.within in
        let m = branch e.first a in
        record {
          route = record {
            first-site = a.site;
            second-site = b.site;
            first-terminal = a.ends;
            second-terminal = b.ends;
            different = λ q. omega (arith, rw (← q, m.2) at (cross m.0 m.1.link));
            free = λ y i py ty da db li ai. new-free e p.left p.right cross y i py ty da db (record { bound = li; here = ai });
          };
          left = a.inner;
          right = b.inner;
          positive = p.positive;
        }) (match us ds) new_in new-cross

    pairs_made : Each (Made ls n terminal j v) (settle up down G).pairs
    unfolding settle
    pairs_made = each_append (Made ls n terminal j v) G.pairs (match us ds) all.pairs-all new-made

    handed : All (λ h. Reaching ls n terminal j v h.0) (Made ls n terminal j v) (settle up down G)
    unfolding settle
    handed = record {
      ups_all = each_map (λ h. Clear N h.0) (λ h. Reaching ls n terminal j v h.0) (λ h. stays h.0)
          (drop_halves own G.ups) (thinned_each (Clear N) (drop_thins own G.ups) all.ups_all);
      downs_all = each_map (λ h. Clear N h.0) (λ h. Reaching ls n terminal j v h.0) (λ h. stays h.0)
          (take_halves down G.downs) (thinned_each (Clear N) (take_thins down G.downs) all.downs_all);
      pairs-all = pairs_made;
    }

    -- ---- loads

    -- what crosses link i, by where its sites are seen from w
    new-flow : (w i : ℕ) → Site n w → i < length ls
        → flow (separates ls i) (match us ds) + 2 * flow (λ x y. separates ls i w x * separates ls i w y) (match us ds)
        ≡ halves_at (separates ls i w) us + halves_at (separates ls i w) ds
    new-flow w i pw li = omega (
      arith,
      match_firsts f us ds (omega (arith, left, right)),
      match_seconds f us ds (left ∙ sym right),
      tally-add (λ e. e.amount * f e.first) (λ e. e.amount * f e.second) (match us ds),
      tally-add (λ e. e.amount * separates ls i e.first e.second) (λ e. 2 * (e.amount * (f e.first * f e.second))) (match us ds),
      tally-mul 2 (λ e. e.amount * (f e.first * f e.second)) (match us ds),
      tally-eq (λ e. e.amount * separates ls i e.first e.second + 2 * (e.amount * (f e.first * f e.second)))
          (λ e. e.amount * f e.first + e.amount * f e.second) (match us ds) (each_map (Made ls n terminal j v)
          (λ e. e.amount * separates ls i e.first
          e.second + 2 * (e.amount * (f e.first * f e.second)) ≡ e.amount * f e.first + e.amount * f e.second)
          (λ e p. omega (
            arith,
            ap (λ s. e.amount * s) (either_side (f e.first) (f e.second) (separates ls i e.first e.second)
                (three T i w e.first e.second li pw p.route.first-site p.route.second-site) (separates-le ls i w e.first)
                (separates-le ls i w e.second)),
          ))
          (match us ds) new-made),
    )
      where
        f : ℕ → ℕ
        f x = separates ls i w x

    -- of a link i beyond a child's link m
    below : (w i m : ℕ) → Site n w → i < length ls → Down ls v j m → Branch ls m v i
        → ((k : ℕ) → Down ls v j k → separates ls k v w ≡ 0) → Open ls n terminal w i → loading ls w i (settle up down G) ≡ 2 * t i
    unfolding settle
    below w i m pw li d br out op =
        let f = separates ls i w in
        let am = d.link in
        let loc : LocalTo N m f = λ x px c. far T i m v w x li am.bound pv pw px br (out m d) c in
        let one : links m ks ≡ 1 = children-links T v j m am.bound ∙ pick_other d.new 0 (at ls v m) ∙ am.here in
        omega (
          arith,
          rw one at (gather_loads N m am i w li pw br out (out m d) op r ks ready),
          tally-append (λ e. e.amount * separates ls i e.first e.second) G.pairs (match us ds),
          at_split f own G.ups,
          at_split f down G.downs,
          new-flow w i pw li,
          parted f f m m am am loc loc (order_same m ks),
        )

    -- of the link to the parent: no pair crosses it, and every entry does
    own-link : (w : ℕ) → Site n w → Outside ls j v w → j < length ls → loading ls w j (settle up down G) ≡ up + down
    own-link w pw (inr b) lj = absurd (omega arith)
    own-link w pw (inl b) lj =
        let S = settle up down G in
        let crossed : (h : ℕ × ℕ) → Reaching ls n terminal j v h.0 → separates ls j w h.0 ≡ 1 = λ h p. omega (
          arith,
          three T j v w h.0 lj pv pw p.within.site,
          p.within.inner,
          separates-le ls j w h.0,
        ) in
        omega (
          arith,
          at_all (separates ls j w) S.ups
              (each_map (λ h. Reaching ls n terminal j v h.0) (λ h. separates ls j w h.0 ≡ 1) crossed S.ups handed.ups_all),
          at_all (separates ls j w) S.downs
              (each_map (λ h. Reaching ls n terminal j v h.0) (λ h. separates ls j w h.0 ≡ 1) crossed S.downs handed.downs_all),
          ups-settled,
          downs-settled,
          tally-zero (λ e. e.amount * separates ls j e.first e.second) S.pairs
              (each_map (Made ls n terminal j v) (λ e. e.amount * separates ls j e.first e.second ≡ 0)
              (λ e p. let z : separates ls j e.first e.second ≡ 0 = omega (
                arith,
                three T j v e.first e.second lj pv p.route.first-site p.route.second-site,
                p.left,
                p.right,
              ) in rw z (omega arith)) S.pairs pairs_made),
        )

    loads-settled : (w i : ℕ) → Site n w → Outside ls j v w → i < length ls → Within ls j v i → Open ls n terminal w i
        → loading ls w i (settle up down G) ≡ 2 * t i
    loads-settled w i pw b li wi op = same? i j
        (λ e. go e en)
        (λ d. let m = branch_link T v j i pv li d wi in below w i m.0 pw li m.1 m.2 (λ k. outside T v j k w en pv pw b) op)
      where
        go : i ≡ j → Entered ls j v → loading ls w i (settle up down G) ≡ 2 * t i
        go e (inl o) = rw e (own-link w pw b o.bound ∙ omega (arith, others-add ls v j t o.bound o.here))
        go e (inr o) = absurd (omega arith)

    -- ---- each site and each pair at most once

    -- no more often than children stand beyond the site's link
    single-entry : (l : Halves) → Each (λ h. Clear N h.0) l
        → ((x m : ℕ) → LinkAt ls v m → separates ls m v x ≡ 1 → tally (λ h. is h.0 x) l ≤ links m ks) → (x : ℕ) → tally (λ h. is h.0 x) l ≤ 1
    single-entry l p bound x = elim (tally-some (λ h. Clear N h.0) (λ h. is h.0 x) l p) [
      | inl z ↦ omega (arith, z)
      | inr s ↦
          let o : is s.0.0 x ≡ 1 = omega (arith, is_le s.0.0 x, s.2) in
          let b = branch x (rw (is_one o) at s.1.within) in
          omega (arith, once b.0 b.1.link.bound, bound x b.0 b.1.link b.2)
    ]

    ups-one : (x : ℕ) → tally (λ h. is h.0 x) G.ups ≤ 1
    ups-one = single-entry G.ups all.ups_all (λ x m am o. gather_ups_once N m am x o r ks ready)

    downs-one : (x : ℕ) → tally (λ h. is h.0 x) G.downs ≤ 1
    downs-one = single-entry G.downs all.downs_all (λ x m am o. gather_downs_once N m am x o r ks ready)

    one-way-round : (x y : ℕ) → times (λ a b. is a x * is b y) (match us ds) ≤ 1
    one-way-round x y = ones (tally (λ h. is h.0 x) us) (tally (λ h. is h.0 y) ds) (match-times (λ a. is a x) (λ b. is b y) us ds)
        (omega (arith, ups-one x, thinned_tally (λ a. is a x) (take_thins own G.ups)))
        (omega (arith, downs-one y, thinned_tally (λ b. is b y) (drop_thins down G.downs)))
      where
        ones : (a b : ℕ) {c : ℕ} → c ≤ a * b → a ≤ 1 → b ≤ 1 → c ≤ 1
        ones a b l s t = same? a 0 (λ e. omega (arith, rw e at l)) (λ d. let e : a ≡ 1 = omega arith in omega (arith, rw e at l))

    -- none from x to y where y's child is x's or comes before it
    none-back : (x y kf kg : ℕ) → LinkAt ls v kf → LinkAt ls v kg → separates ls kf v x ≡ 1 → separates ls kg v y ≡ 1 → Order kg kf ks
        → times (λ a b. is a x * is b y) (match us ds) ≡ 0
    none-back x y kf kg af ag cf cg w = omega (
      arith,
      times-flow (Clear N) (Clear N) (λ a b. is a x * is b y) (match us ds) new_in,
      parted (λ a. is a x) (λ b. is b y) kf kg af ag (local x kf cf) (local y kg cg) w,
    )
      where
        local : (x m : ℕ) → separates ls m v x ≡ 1 → LocalTo N m (λ y. is y x)
        local x m c y py z = is-other {u = y} {v = x} (λ e. omega (arith, rw e at z))

    pair_of : (x y : ℕ) → In ls n terminal j v x → In ls n terminal j v y → arises (settle up down G).pairs x y ≤ 1
    unfolding settle
    pair_of x y p q =
        let b = branch x p in
        let c = branch y q in
        let ab = b.1.link in
        let ac = c.1.link in
        let joined = tally-append (λ e. joins (e.first, e.second) x y) G.pairs (match us ds) in
        let two = tally-add (λ e. is e.first x * is e.second y) (λ e. is e.first y * is e.second x) (match us ds) in
        let new = tally-le (λ e. joins (e.first, e.second) x y) (λ e. is e.first x * is e.second y + is e.first y * is e.second x) (match us ds)
        (each_map (Made ls n terminal j v) (λ e. joins (e.first, e.second) x y ≤ is e.first x * is e.second y + is e.first y * is e.second x)
        (λ e m. joins-le (e.first, e.second) x y) (match us ds) new-made) in
        let old = gather_pairs_once N b.0 ab x b.2 y r ks ready in
        same? b.0 c.0
        (λ e. let cy : separates ls b.0 v y ≡ 1 = rw e c.2 in
        omega (
          arith,
          rw cy at old,
          once b.0 ab.bound,
          none-back x y b.0 b.0 ab ab b.2 cy (order_same b.0 ks),
          none-back y x b.0 b.0 ab ab cy b.2 (order_same b.0 ks),
        ))
        (λ d. let gone = rw (single T v c.0 b.0 y pv q.site ac c.2 ab (λ e. d (sym e))) at old in
        elim (order_total b.0 c.0 ks d) [
          | inl w ↦ omega (arith, gone, one-way-round x y, none-back y x c.0 b.0 ac ab c.2 b.2 w)
          | inr w ↦ omega (arith, gone, one-way-round y x, none-back x y b.0 c.0 ab ac b.2 c.2 w)
        ])

    pairs-one : (x y : ℕ) → arises (settle up down G).pairs x y ≤ 1
    pairs-one x y = elim (tally-some (Made ls n terminal j v) (λ e. joins (e.first, e.second) x y) (settle up down G).pairs pairs_made) [
      | inl z ↦ omega (arith, z)
      | inr s ↦
          let m = s.1 in
          let a : In ls n terminal j v s.0.first = record { site = m.route.first-site; ends = m.route.first-terminal; inner = m.left } in
          let b : In ls n terminal j v s.0.second = record { site = m.route.second-site; ends = m.route.second-terminal; inner = m.right } in
          elim (joins-ends (s.0.first, s.0.second) x y (omega (arith, joins-one (s.0.first, s.0.second) x y, s.2))) [
            | inl e ↦ pair_of x y (rw e.0 at a) (rw e.1 at b)
            | inr e ↦ pair_of x y (rw e.1 at b) (rw e.0 at a)
          ]
    ]

    pub settle_good : Good ls n t terminal j v up down (settle up down G)
    settle_good = record {
      up-halves = ups-settled;
      down-halves = downs-settled;
      all = handed;
      loads = loads-settled;
      few = omega (
        arith,
        size-children T v j en pv,
        settle_few up down own G (sizes ls n ks) (omega (arith, ups_are)) (omega (arith, ups_are, downs_are))
            (omega (arith, ap (min 1) ups_are, gather_few N r ks ready)),
      );
      ups_once = λ x. unfold settle in (omega (arith, ups-one x, thinned_tally (λ y. is y x) (drop_thins own G.ups)));
      downs_once = λ x. unfold settle in (omega (arith, downs-one x, thinned_tally (λ y. is y x) (take_thins down G.downs)));
      pairs_once = pairs-one;
    }
