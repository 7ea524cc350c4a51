-- Intervals of loads from the terminals inward, loads from the root outward, and why they are largest: by two inductions, children first, on what a load of
-- the link to the parent brings to the terminals below. A, B: least and most that the children of a site bring together; a, b: low and high,
-- what the link to the parent, of capacity c, lets through; K, S: what comes to the terminals below; us: the sites,
-- par: their parents, term: 1 at a terminal; x: loads.
use Rattle.std.specs.Prelude.{◌≡◌, refl, ◌≢◌, List}
use Rattle.std.proofs.Common.{ap, ap₂, ◌∙◌}
use Prim.Native.Nat.{ℕ, ◌+◌, ◌*◌, ◌-◌, ◌%◌, ◌≤◌, ◌<◌, min, max}
use native.Mathlib.Omega.{arith}
use Rattle.std.proofs.Math.Decide.{dec_le}
use Rattle.lists.specs.Numbers.{pick, is, count, over}
use Rattle.lists.specs.Sums.{pick_same, pick_other, is_same, is-other, same?, cases}
use Rattle.theory_whole.specs.Numbers.{Link, interval, Upper, Value, upper_closed, upper_link, upper_site}
use Rattle.theory_whole.specs.Numbers.{value_closed, value-link, value-site, choice, choice-other, interval_site, odd_le}
use Rattle.theory_whole.specs.Rooted.{children, Child, children-add, children-le, children-eq, children-none, children-mod, children_le_but}
use Rattle.theory_whole.specs.Rooted.{children_eq_but, children_ge, children-two, tree-sum, Rooted, children-first, parent_first, gather, times, fixed}

module _ (us : List ℕ) (par c term : ℕ → ℕ) where
  -- x v is the load of the link from v to its parent, c v its capacity; terminals are the sites marked 1
  pub record Good (x : ℕ → ℕ) : Type 0 where
    pub fits : (v : ℕ) → 1 ≤ count us v → x v ≤ c v
    pub even : (v : ℕ) → 1 ≤ count us v → term v ≢ 1 → (x v + children us par v x) % 2 ≡ 0
    pub up : (v : ℕ) → 1 ≤ count us v → term v ≢ 1 → x v ≤ children us par v x
    pub down : (v w : ℕ) → 1 ≤ count us v → term v ≢ 1 → Child us par v w → 2 * x w ≤ x v + children us par v x

  -- the loads of the links at the terminals
  unfoldable pub at_ends : (ℕ → ℕ) → ℕ
  at_ends x = over us (λ v. is (term v) 1 * (x v + children us par v x))

  -- S v is the part of it that lies at v and below
  pub record Sums (x S : ℕ → ℕ) : Type 0 where
    pub every : (v : ℕ) → 1 ≤ count us v → S v ≡ is (term v) 1 * (x v + children us par v x) + children us par v S

  -- the values found from the ends inward
  pub record Inwards (A B a b top : ℕ → ℕ) : Type 0 where
    pub bare : (v : ℕ) → 1 ≤ count us v → par v ≡ 0 → c v ≡ 0
    pub link : (v : ℕ) → 1 ≤ count us v → Link (A v) (B v) (c v) (a v) (b v)
    pub sum : (v : ℕ) → 1 ≤ count us v → B v ≡ children us par v b
    pub wide : (v : ℕ) → 1 ≤ count us v → term v ≡ 1 → c v < A v
    pub site : (v : ℕ) → 1 ≤ count us v → term v ≢ 1 → A v ≡ max (a (top v) + b (top v) - B v) (B v % 2)
    pub child : (v : ℕ) → 1 ≤ count us v → term v ≢ 1 → Child us par v (top v)
    pub most : (v w : ℕ) → 1 ≤ count us v → term v ≢ 1 → Child us par v w → b w ≤ b (top v)

  -- for the proofs: with a load x below a v on its parent link, the terminals at v and below take in K v + x
  pub record Bases (A a b K : ℕ → ℕ) : Type 0 where
    pub inner : (v : ℕ) → 1 ≤ count us v → term v ≢ 1 → K v + A v ≡ children us par v (λ w. K w + a w)
    pub end : (v : ℕ) → 1 ≤ count us v → term v ≡ 1 → K v ≡ children us par v (λ w. K w + a w + b w)

  -- the loads found from the root outward: each is b, but for the child `top` of an inner site
  pub record Outwards (B b top load : ℕ → ℕ) : Type 0 where
    pub root : (v : ℕ) → 1 ≤ count us v → par v ≡ 0 → load v ≡ b v
    pub end : (v w : ℕ) → 1 ≤ count us v → term v ≡ 1 → Child us par v w → load w ≡ b w
    pub other : (v w : ℕ) → 1 ≤ count us v → term v ≢ 1 → Child us par v w → w ≢ top v → load w ≡ b w
    pub chosen : (v : ℕ) → 1 ≤ count us v → term v ≢ 1 → load (top v) ≡ min (b (top v) - (load v + B v) % 2) (load v + B v - b (top v))

module _ {us : List ℕ} {par c term x S : ℕ → ℕ} (sums : Sums us par c term x S) where
  sums_end : (v : ℕ) → 1 ≤ count us v → term v ≡ 1 → S v ≡ x v + children us par v x + children us par v S
  sums_end v p m = omega (arith, rw (m, is_same {u = 1} refl) at (sums.every v p))

  sums_inner : (v : ℕ) → 1 ≤ count us v → term v ≢ 1 → S v ≡ children us par v S
  sums_inner v p m = omega (arith, rw (is-other m) at (sums.every v p))

module _ {us : List ℕ} {par pos : ℕ → ℕ} (R : Rooted us par pos) {c term A B a b top : ℕ → ℕ} (I : Inwards us par c term A B a b top) where
  -- ---- Lemma 2: the intervals

  pub record Fine (v : ℕ) : Type 0 where
    pub order : a v ≤ b v
    pub capacity : b v ≤ c v
    pub parity : (a v + b v) % 2 ≡ 0
    pub low : a v ≤ A v
    pub site_order : term v ≢ 1 → A v ≤ B v
    pub site_parity : term v ≢ 1 → (A v + B v) % 2 ≡ 0
    pub high : term v ≢ 1 → b v ≤ B v

  pub top-le : (v : ℕ) → 1 ≤ count us v → term v ≢ 1 → b (top v) ≤ B v
  top-le v p m = omega (arith, I.sum v p, children_ge us par R.once v (top v) b (I.child v p m))

  top_pos : (v : ℕ) → 1 ≤ count us v → term v ≢ 1 → 1 ≤ B v → 1 ≤ b (top v)
  top_pos v p m h = cases (dec_le 1 (b (top v))) (λ k. k)
      (λ k. absurd (omega (arith, I.sum v p, children-none us par v, children-le us par v b (λ w. 0) (λ w i. omega (arith, I.most v w p m i)))))

  fine_end : (v : ℕ) → 1 ≤ count us v → term v ≡ 1 → Link (A v) (B v) (c v) (a v) (b v) → c v < A v → Fine v
  fine_end v p m (Link.closed l e f) h = record {
    order = omega arith;
    capacity = omega arith;
    parity = omega arith;
    low = omega arith;
    site_order = λ d. absurd (d m);
    site_parity = λ d. absurd (d m);
    high = λ d. absurd (d m);
  }
  fine_end v p m (Link.opened l e f) h = absurd (omega arith)

  pub fine : (v : ℕ) → 1 ≤ count us v → Fine v
  fine = children-first R Fine (λ v p ih. same? (term v) 1
      (λ m. fine_end v p m (I.link v p) (I.wide v p m))
      (λ m. let t = ih (top v) (I.child v p m) in
      let s = interval_site (A v) (B v) (a (top v)) (b (top v)) (I.site v p m) t.order t.parity (top-le v p m) in
      let r = interval (I.link v p) s.0 s.1 in
      record {
        order = r.0;
        capacity = r.1;
        parity = r.2;
        low = r.3;
        site_order = λ d. s.0;
        site_parity = λ d. s.1;
        high = λ d. r.4;
      }))

  module _ {K : ℕ → ℕ} (Q : Bases us par c term A a b K) where
    -- ---- Lemma 3: no good loads bring more to the terminals

    module _ {x S : ℕ → ℕ} (g : Good us par c term x) (sums : Sums us par c term x S) where
      upper : (v : ℕ) → 1 ≤ count us v → Upper (K v) (a v) (b v) (x v) (S v)
      upper = children-first R (λ v. Upper (K v) (a v) (b v) (x v) (S v)) (λ v p ih.
          let Y = children us par v x in
          let all : children us par v S + Y ≤ children us par v (λ w. K w + a w) + children us par v b
          = omega (
            arith,
            children-add us par v S x,
            children-add us par v (λ w. K w + a w) b,
            children-le us par v (λ w. S w + x w) (λ w. K w + a w + b w) (λ w i. (ih w i).falling),
          ) in
          same? (term v) 1
          (λ m. upper_closed (K v) (x v) (S v) (I.link v p) (I.wide v p m) (g.fits v p)
          (omega (arith, sums_end sums v p m, all, Q.end v p m, children-add us par v (λ w. K w + a w) b)))
          (λ m. let t = top v in
          let k = I.child v p m in
          let f = fine v p in
          let h2 : S v + (Y + B v) % 2 ≤ children us par v (λ w. K w + a w)
          = omega (
            arith,
            sums_inner sums v p m,
            I.sum v p,
            children-mod us par v (λ w. x w + b w),
            children-add us par v x b,
            children-add us par v S (λ w. (x w + b w) % 2),
            children-le us par v (λ w. S w + (x w + b w) % 2) (λ w. K w + a w) (λ w i. (ih w i).parity),
          ) in
          let h3 : S v + Y + a t + b t ≤ children us par v (λ w. K w + a w) + B v + 2 * x t
          = omega (
            arith,
            sums_inner sums v p m,
            I.sum v p,
            children-add us par v S x,
            children-add us par v (λ w. K w + a w) b,
            children_le_but us par R.once v t (λ w. S w + x w) (λ w. K w + a w + b w) k (λ w i d. (ih w i).falling),
            (ih t k).rising,
          ) in
          upper_link (K v) (x v) (S v) (I.link v p) (f.site_order m) (f.site_parity m) (g.fits v p)
          (upper_site (K v) (children us par v (λ w. K w + a w)) (A v) (B v) (a t) (b t) (x v) Y (x t) (S v)
          (I.site v p m) (Q.inner v p m) (omega (arith, sums_inner sums v p m, all, I.sum v p)) h2 h3
          (g.even v p m) (g.up v p m) (g.down v t p m k))))

    pub at_most : {x : ℕ → ℕ} → Good us par c term x → at_ends us par c term x ≤ children us par 0 K
    unfolding at_ends
    at_most {x} g =
        let f : ℕ → ℕ = λ v. is (term v) 1 * (x v + children us par v x) in
        let G = gather R f in
        omega (
          arith,
          tree-sum us par R.root_free R.once R.home f G.0 G.1,
          children-le us par 0 G.0 K (λ w i. omega (
            arith,
            (upper g (record { every = G.1 }) w i.site).rising,
            g.fits w i.site,
            I.bare w i.site i.parent,
          )),
        )

  module _ {load : ℕ → ℕ} (O : Outwards us par c term B b top load) where
    -- ---- Lemma 4: the loads found are good

    -- the children of an inner site: t's load, and the sum
    sum-loads : (v : ℕ) → 1 ≤ count us v → term v ≢ 1 → children us par v load + b (top v) ≡ B v + load (top v)
    sum-loads v p m = omega (
      arith,
      I.sum v p,
      children_eq_but us par R.once v (top v) load b (I.child v p m) (λ w i d. O.other v w p m i d),
    )

    load-child : (v w : ℕ) → 1 ≤ count us v → load v ≤ b v → Child us par v w → load w ≤ b w
    load-child v w p h i = same? (term v) 1
        (λ m. omega (arith, O.end v w p m i))
        (λ m. same? w (top v)
        (λ e. rw e (choice (B v) (b (top v)) (load v) (load (top v)) (children us par v load)
        (top-le v p m) (omega (arith, h, (fine v p).high m)) (top_pos v p m) (O.chosen v p m) (sum-loads v p m)).0)
        (λ d. omega (arith, O.other v w p m i d)))

    pub load-le : (v : ℕ) → 1 ≤ count us v → load v ≤ b v
    load-le v p = parent_first R (λ v. 1 ≤ count us v → load v ≤ b v)
        (λ q. absurd (omega (arith, R.root_free)))
        (λ v q ih _. same? (par v) 0
        (λ e. omega (arith, O.root v q e))
        (λ d. let k = R.home v q d in load-child (par v) v k (ih k) (record { site = q; parent = refl })))
        v p p

    pub load_good : Good us par c term load
    load_good = record {
      fits = λ v p. omega (arith, load-le v p, (fine v p).capacity);
      even = λ v p m. (chosen v p m).1;
      up = λ v p m. (chosen v p m).2;
      down = λ v w p m i. same? w (top v)
          (λ e. rw e (chosen v p m).3)
          (λ d. rw (O.other v w p m i d) (choice-other (B v) (b (top v)) (load v) (load (top v)) (children us par v load) (b w)
          (top-le v p m) (low v p m) (top_pos v p m) (O.chosen v p m) (sum-loads v p m)
          (I.most v w p m i) (omega (arith, I.sum v p, children-two us par R.once v w (top v) b i (I.child v p m) d))));
    }
      where
        low : (v : ℕ) → 1 ≤ count us v → term v ≢ 1 → load v ≤ B v
        low v p m = omega (arith, load-le v p, (fine v p).high m)

        chosen : (v : ℕ) → 1 ≤ count us v → term v ≢ 1
            → (load (top v) ≤ b (top v)) × ((load v + children us par v load) % 2 ≡ 0) × (load v ≤ children us par v load)
            × (2 * load (top v) ≤ load v + children us par v load)
        chosen v p m = choice (B v) (b (top v)) (load v) (load (top v)) (children us par v load)
            (top-le v p m) (low v p m) (top_pos v p m) (O.chosen v p m) (sum-loads v p m)

    -- ---- Lemma 5: they bring that much

    module _ {K S : ℕ → ℕ} (Q : Bases us par c term A a b K) (sums : Sums us par c term load S) where
      -- with load b
      full : (w : ℕ) → 1 ≤ count us w → load w ≡ b w → Value (K w) (a w) (b w) (load w) (S w) → S w ≡ K w + a w
      full w p e u = let z = u.above (omega (arith, (fine w p).order)) in omega arith

      value : (v : ℕ) → 1 ≤ count us v → Value (K v) (a v) (b v) (load v) (S v)
      value = children-first R (λ v. Value (K v) (a v) (b v) (load v) (S v)) (λ v p ih. same? (term v) 1
          (λ m. value_closed (K v) (load v) (S v) (I.link v p) (I.wide v p m) (load-le v p)
          (omega (
            arith,
            sums_end sums v p m,
            Q.end v p m,
            children-add us par v S load,
            children-eq us par v (λ w. S w + load w) (λ w. K w + a w + b w)
                (λ w i. omega (arith, O.end v w p m i, full w i.site (O.end v w p m i) (ih w i))),
          )))
          (λ m. let t = top v in
          let k = I.child v p m in
          let f = fine v p in
          let r = fine t k.site in
          value-link (K v) (load v) (S v) (I.link v p) (f.site_order m) (f.site_parity m) (load-le v p)
          (value-site (K v) (children us par v (λ w. K w + a w)) (A v) (B v) (K t) (a t) (b t) (load v) (load t) (S t) (S v)
          (I.site v p m) (Q.inner v p m) r.order r.parity (top-le v p m) (omega (arith, load-le v p, f.high m)) (top_pos v p m)
          (O.chosen v p m)
          (omega (
            arith,
            sums_inner sums v p m,
            children_eq_but us par R.once v t S (λ w. K w + a w) k (λ w i d. full w i.site (O.other v w p m i d) (ih w i)),
          ))
          (ih t k))))

    pub reached : {K : ℕ → ℕ} → Bases us par c term A a b K → at_ends us par c term load ≡ children us par 0 K
    unfolding at_ends
    reached {K} Q =
        let f : ℕ → ℕ = λ v. is (term v) 1 * (load v + children us par v load) in
        let G = gather R f in
        omega (
          arith,
          tree-sum us par R.root_free R.once R.home f G.0 G.1,
          children-eq us par 0 G.0 K (λ w i.
              let u = value Q (record { every = G.1 }) w i.site in
              let r = fine w i.site in
              let z = I.bare w i.site i.parent in
              let y = u.above (omega arith) in
              omega (arith, load-le w i.site)),
        )

  -- ---- the bases exist

  pub bases : (K : ℕ → ℕ) × Bases us par c term A a b K
  bases =
      let F : (ℕ → ℕ) → ℕ → ℕ = λ g v. pick (term v) 1 (children us par v (λ w. g w + a w + b w)) (children us par v (λ w. g w + a w) - A v) in
      let K = times R F (pos 0) in
      let eq = fixed R F (λ g h v p e. ap₂ (pick (term v) 1)
      (children-eq us par v (λ w. g w + a w + b w) (λ w. h w + a w + b w) (λ w i. omega (arith, e w i)))
      (ap (λ z. z - A v) (children-eq us par v (λ w. g w + a w) (λ w. h w + a w) (λ w i. omega (arith, e w i))))) in (
        K,
        record {
          inner = λ v p m.
              let t = top v in
              let k = I.child v p m in
              omega (
                arith,
                rw (pick_other m) at (eq v p),
                I.site v p m,
                I.sum v p,
                top-le v p m,
                children_ge us par R.once v t (λ w. K w + a w) k,
                children-mod us par v b,
                children-le us par v (λ w. b w % 2) (λ w. K w + a w) (λ w i. let f = fine w i.site in odd_le (K w) (a w) (b w) f.parity),
              );
          end = λ v p m. eq v p ∙ pick_same m (children us par v (λ w. K w + a w + b w)) (children us par v (λ w. K w + a w) - A v);
        },
      )

  -- parts 1 to 3 of the theorem: the loads found are good, and no good loads bring more to the terminals
  pub load-best : {load : ℕ → ℕ} → Outwards us par c term B b top load → {x : ℕ → ℕ} → Good us par c term x
      → at_ends us par c term x ≤ at_ends us par c term load
  load-best O g = let K = bases in omega (arith, at_most K.1 g, reached O K.1)
