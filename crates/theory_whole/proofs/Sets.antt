-- Disjoint sets, one for each terminal, whose sizes less the odd pieces are what the loads bring to the terminals. By adding up, children first, what the
-- links below a site leave of sets: three cases by how the set of the parent goes on. Letters as in Loads; goal: where the children `top` lead.
use Rattle.std.specs.Prelude.{◌≡◌, ◌≢◌, ◌⊎◌, List}
use Rattle.std.proofs.Math.Path.{refl, sym, ap}
use Rattle.std.proofs.Common.{◌∙◌}
use Rattle.std.proofs.Math.Logic.{inl, inr}
use Prim.Native.Nat.{ℕ, ◌+◌, ◌*◌, ◌≤◌, ◌<◌}
use native.Mathlib.Omega.{arith}
use Rattle.lists.specs.Numbers.{is, differ, count, over}
use Rattle.lists.specs.Sums.{pick_same, pick_cases, is_same, is-other, is_le, is_iff, same?, differ_same, differ-other}
use Rattle.lists.specs.Places.{over_add, over-mul, over-eq, over-is}
use Rattle.theory_whole.specs.Numbers.{interval_whole, interval_closed, interval_site, free_up, free_zero, free_more}
use Rattle.theory_whole.specs.Sums.{over_none, turn}
use Rattle.theory_whole.specs.Rooted.{children, Child, children-add, children-eq, children_eq_but}
use Rattle.theory_whole.specs.Rooted.{tree-sum, Rooted, children-first, parent_first, gather}
use Rattle.theory_whole.specs.Counting.{odd_at}
use Rattle.theory_whole.proofs.Counting.{odd_owned, odd_up, odd_zero, odd_more}
use Rattle.theory_whole.specs.Loads.{Inwards, Outwards, Bases, fine, top-le, at_ends, bases, reached}
use Rattle.theory_whole.specs.Sets.{head, kept, Choice, free, chain, path, Chains, Owners, leaves, set_size, site-zero, goal_end, on_path, on_yes, on_end, own, path_off, owner-end}

module _ {us : List ℕ} {par pos : ℕ → ℕ} (R : Rooted us par pos) {c term A B a b top : ℕ → ℕ} (I : Inwards us par c term A B a b top)
    {goal : ℕ → ℕ} (D : Chains us par c term A top goal) where
  module _ {owner on : ℕ → ℕ} (O : Owners us par c term A B top goal owner on) where
    path-yes : (v : ℕ) → on_path R I D O v ≡ 1 → (on (par v) ≡ 1) × (top (par v) ≡ v)
    unfolding path
    path-yes v = pick_cases (λ r. r ≡ 1 → (on (par v) ≡ 1) × (top (par v) ≡ v)) (on (par v)) 1 (is (top (par v)) v) 0
        (λ e q. (e, same? (top (par v)) v (λ z. z) (λ d. absurd (omega (arith, is-other d)))))
        (λ d q. absurd (omega arith))

    path-no : (v : ℕ) → on_path R I D O v ≢ 1 → on_path R I D O v ≡ 0
    unfolding path
    path-no v = pick_cases (λ r. r ≢ 1 → r ≡ 0) (on (par v)) 1 (is (top (par v)) v) 0
        (λ e q. omega (arith, is_le (top (par v)) v))
        (λ d q. refl)

    path-on : (v : ℕ) → on (par v) ≡ 1 → top (par v) ≡ v → on_path R I D O v ≡ 1
    unfolding path
    path-on v e z = rw (pick_same e) (is_same z)

    path-other : (v : ℕ) → top (par v) ≢ v → on_path R I D O v ≡ 0
    unfolding path
    path-other v d = rw (is-other d) (pick_cases (λ r. r ≡ 0) (on (par v)) 1 0 0 (λ e. refl) (λ e. refl))

    -- ---- Lemma 6: along a path the set goes on

    path_parent : (v : ℕ) → 1 ≤ count us v → on_path R I D O v ≡ 1 → (1 ≤ count us (par v)) × (term (par v) ≢ 1)
    path_parent v p h =
        let y = path-yes v h in
        let d : par v ≢ 0 = λ e. omega (arith, O.off, rw e at y.0) in
        let q = R.home v p d in
        (q, λ m. site-zero R I D p (sym y.1 ∙ D.bare (par v) q m))

    -- at an inner site that is on, the interval of `top` is that much wider
    on-site : (v : ℕ) → 1 ≤ count us v → term v ≢ 1 → 2 ≤ A v → (A v + B v ≡ a (top v) + b (top v)) × (2 ≤ a (top v))
    on-site v p m h =
        let t = fine R I (top v) (I.child v p m).site in
        (interval_site (A v) (B v) (a (top v)) (b (top v)) (I.site v p m) t.order t.parity (top-le R I v p m)).2 h

    path-set : (v : ℕ) → 1 ≤ count us v → on_path R I D O v ≡ 1 → (2 ≤ A v) × (on v ≡ 1) × (owner v ≡ owner (par v))
    path-set v p h =
        let y = path-yes v h in
        let q = path_parent v p h in
        let u = on_yes R I D O (par v) q.0 y.0 in
        let w : 2 ≤ A v = omega (arith, rw y.1 at (on-site (par v) q.0 q.1 u.0).1, (fine R I v p).low) in
        let o = path-case w (O.rule v p) in
        (w, o, (on_yes R I D O v p o).1 ∙ sym (ap goal y.1) ∙ sym (D.inner (par v) q.0 q.1) ∙ sym u.1)
      where
        path-case : 2 ≤ A v → Choice (A v) (B v) (c v) (on_path R I D O v) (owner (par v)) (goal v) (owner v) (on v) → on v ≡ 1
        path-case w (Choice.head k l o r) = o
        path-case w (Choice.chain k l o r) = o
        path-case w (Choice.kept n l o r) = absurd (omega (arith, (n w).1))
        path-case w (Choice.free n l o r) = absurd (omega (arith, (n w).1))

    -- ---- Lemma 7: a set that starts at v is not the parent's

    -- where the set of v starts
    data Head : ℕ → ℕ → Type 0 where
      here : {v : ℕ} → 1 ≤ count us v → on v ≡ 1 → on_path R I D O v ≡ 0 → Head v v
      along : {v h : ℕ} → 1 ≤ count us v → on_path R I D O v ≡ 1 → Head (par v) h → Head v h
      under : {v h : ℕ} → 1 ≤ count us v → on v ≡ 0 → owner v ≡ owner (par v) → Head (par v) h → Head v h

    head-site : {v h : ℕ} → Head v h → (1 ≤ count us h) × (on h ≡ 1) × (on_path R I D O h ≡ 0) × (pos v ≤ pos h) × (owner v ≡ goal h)
    head-site {v} (here p o z) = (p, o, z, omega arith, (on_yes R I D O v p o).1)
    head-site {v} (along p h r) =
        let s = head-site r in (s.0, s.1, s.2, omega (arith, R.later v p, s.3), (path-set v p h).2 ∙ s.4)
    head-site {v} (under p o e r) =
        let s = head-site r in (s.0, s.1, s.2, omega (arith, R.later v p, s.3), e ∙ s.4)

    head-one : {v h k : ℕ} → Head v h → Head v k → h ≡ k
    head-one (here p o z) (here p' o' z') = refl
    head-one (here p o z) (along p' h r) = absurd (omega arith)
    head-one (here p o z) (under p' o' e r) = absurd (omega arith)
    head-one (along p h r) (here p' o z) = absurd (omega arith)
    head-one (along p h r) (along p' h' r') = head-one r r'
    head-one {v} (along p h r) (under p' o e r') = absurd (omega (arith, (path-set v p h).1))
    head-one (under p o e r) (here p' o' z) = absurd (omega arith)
    head-one {v} (under p o e r) (along p' h r') = absurd (omega (arith, (path-set v p' h).1))
    head-one (under p o e r) (under p' o' e' r') = head-one r r'

    head-some : (v : ℕ) → 1 ≤ count us v → owner v ≢ 0 → (h : ℕ) × Head v h
    head-some v p d = parent_first R (λ v. owner v ≢ 0 → (h : ℕ) × Head v h)
        (λ d. absurd (d O.nobody))
        (λ v p ih d. same? (on_path R I D O v) 1
        (λ h. let r = ih (λ e. d ((path-set v p h).2 ∙ e)) in (r.0, along p h r.1))
        (λ z. next v p ih d (path-no v z) (O.rule v p)))
        v p d
      where
        next : (v : ℕ) → 1 ≤ count us v → (owner (par v) ≢ 0 → (h : ℕ) × Head (par v) h) → owner v ≢ 0 → on_path R I D O v ≡ 0
            → Choice (A v) (B v) (c v) (on_path R I D O v) (owner (par v)) (goal v) (owner v) (on v) → (h : ℕ) × Head v h
        next v p ih d z (Choice.head k l o r) = (v, here p o z)
        next v p ih d z (Choice.chain k l o r) = absurd (omega arith)
        next v p ih d z (Choice.kept n l o r) = let s = ih (λ e. d (r ∙ e)) in (s.0, under p o r s.1)
        next v p ih d z (Choice.free n l o r) = absurd (d r)

    -- the chain of tops from v leads to the terminal of v's set
    head-goal : (v : ℕ) → 1 ≤ count us v → on v ≡ 1 → (h : ℕ) → Head v h → Head (goal v) h
    head-goal = children-first R (λ v. on v ≡ 1 → (h : ℕ) → Head v h → Head (goal v) h) (λ v p ih o h r. same? (term v) 1
        (λ m. rw (D.end v p m) r)
        (λ m. let k = I.child v p m in
        let t = top v in
        let q = path-on t (rw k.parent o) (ap top k.parent) in
        rw (D.inner v p m) (ih t k (path-set t k.site q).1 h (along k.site q (rw k.parent r)))))

    apart : (v : ℕ) → 1 ≤ count us v → on v ≡ 1 → on_path R I D O v ≡ 0 → owner v ≢ owner (par v)
    apart v p o z e =
        let d = goal_end R I D v p in
        let nz : owner v ≢ 0 = λ q. site-zero R I D d.0 (sym (on_yes R I D O v p o).1 ∙ q) in
        let top-free : par v ≢ 0 = λ q. nz (e ∙ ap owner q ∙ O.nobody) in
        let r = head-some (par v) (R.home v p top-free) (λ q. nz (e ∙ q)) in
        let s = head-site r.1 in
        let mine = head-goal v p o v (here p o z) in
        let theirs = head-goal r.0 s.0 s.1 r.0 (here s.0 s.1 s.2) in
        let same : goal r.0 ≡ goal v = sym s.4 ∙ sym e ∙ (on_yes R I D O v p o).1 in
        omega (arith, ap pos (head-one mine (rw same at theirs)), s.3, R.later v p)

    -- ---- Lemma 8: the sizes of the sets, less the odd pieces

    abbrev part : ℕ → ℕ
    part v = leaves us par c term owner v

    abbrev odds : ℕ → ℕ
    odds v = odd_at par c B owner v

    leaves-same : (v : ℕ) → owner v ≡ owner (par v) → part v ≡ 0
    unfolding leaves
    leaves-same v e = rw (differ_same e) (omega arith)

    leaves-two : (v : ℕ) → owner v ≢ owner (par v) → owner v ≢ 0 → owner (par v) ≢ 0 → part v ≡ 2
    unfolding leaves
    leaves-two v d e f = rw (differ-other d, differ-other e, differ-other f) refl

    leaves-own : (v : ℕ) → owner v ≢ 0 → owner (par v) ≡ 0 → part v ≡ 1
    unfolding leaves
    leaves-own v e f = rw (f, differ-other e, differ_same {u = 0} refl) refl

    leaves-up : (v : ℕ) → owner v ≡ 0 → owner (par v) ≢ 0 → part v ≡ 1
    unfolding leaves
    leaves-up v e f = rw (e, differ-other f, differ-other {u = 0} {v = owner (par v)} (λ z. f (sym z)), differ_same {u = 0} refl) refl

    module _ {K : ℕ → ℕ} (Q : Bases us par c term A a b K) (C P : ℕ → ℕ)
        (sizes : (v : ℕ) → 1 ≤ count us v → C v ≡ c v * part v + children us par v C)
        (pieces : (v : ℕ) → 1 ≤ count us v → P v ≡ odds v + children us par v P) where
      record Dual (v : ℕ) : Type 0 where
        on-path : on_path R I D O v ≡ 1 → C v ≡ K v + P v
        in_set : on_path R I D O v ≡ 0 → owner (par v) ≢ 0 → C v ≡ K v + a v + b v + P v
        in-none : on_path R I D O v ≡ 0 → owner (par v) ≡ 0 → C v ≡ K v + a v + P v

      -- the sums over the children: at a site that is on, in a set, in no set
      module _ (v : ℕ) (p : 1 ≤ count us v) (ih : (w : ℕ) → Child us par v w → Dual w) where
        all_in : ((w : ℕ) → Child us par v w → on_path R I D O w ≡ 0) → owner v ≢ 0
            → children us par v C ≡ children us par v (λ w. K w + a w + b w) + children us par v P
        all_in h d = omega (
          arith,
          children-add us par v (λ w. K w + a w + b w) P,
          children-eq us par v C (λ w. K w + a w + b w + P w) (λ w i. (ih w i).in_set (h w i) (λ e. d (sym (ap owner i.parent) ∙ e))),
        )

        children-on : on v ≡ 1 → children us par v C ≡ K v + children us par v P
        children-on o = same? (term v) 1
            (λ m. omega (
              arith,
              Q.end v p m,
              all_in (λ w i. path-other w (λ e. site-zero R I D i.site (sym e ∙ ap top i.parent ∙ D.bare v p m)))
                  (λ e. site-zero R I D p (sym (own R I D O v p m) ∙ e)),
            ))
            (λ m. let k = I.child v p m in
            let t = top v in
            let u = on_yes R I D O v p o in
            let nz : owner v ≢ 0 = λ e. site-zero R I D (goal_end R I D v p).0 (sym u.1 ∙ e) in
            let q = path-on t (rw k.parent o) (ap top k.parent) in
            omega (
              arith,
              Q.inner v p m,
              I.sum v p,
              (on-site v p m u.0).0,
              (ih t k).on-path q,
              children-add us par v (λ w. K w + a w + b w) P,
              children-add us par v (λ w. K w + a w) b,
              children_eq_but us par R.once v t C (λ w. K w + a w + b w + P w) k
                  (λ w i d. (ih w i).in_set (path-other w (λ e. d (sym e ∙ ap top i.parent))) (λ e. nz (sym (ap owner i.parent) ∙ e))),
            ))

        off-inner : on v ≡ 0 → term v ≢ 1
        off-inner o m = omega (arith, on_end R I D O v p m)

        off-path : on v ≡ 0 → (w : ℕ) → Child us par v w → on_path R I D O w ≡ 0
        off-path o w i = path_off R I D O w (λ e. omega (arith, rw i.parent at e))

        children-in : on v ≡ 0 → owner v ≢ 0 → children us par v C ≡ K v + A v + B v + children us par v P
        children-in o d = omega (
          arith,
          Q.inner v p (off-inner o),
          I.sum v p,
          children-add us par v (λ w. K w + a w) b,
          all_in (off-path o) d,
        )

        children-free : on v ≡ 0 → owner v ≡ 0 → children us par v C ≡ K v + A v + children us par v P
        children-free o e = omega (
          arith,
          Q.inner v p (off-inner o),
          children-add us par v (λ w. K w + a w) P,
          children-eq us par v C (λ w. K w + a w + P w) (λ w i. (ih w i).in-none (off-path o w i) (ap owner i.parent ∙ e)),
        )

        -- and the link to the parent
        dual-head : on v ≡ 1 → c v < A v → on_path R I D O v ≡ 0 → Dual v
        dual-head o l z =
            let u = on_yes R I D O v p o in
            let nz : owner v ≢ 0 = λ e. site-zero R I D (goal_end R I D v p).0 (sym u.1 ∙ e) in
            let s = interval_closed (I.link v p) l in
            record {
              on-path = λ h. absurd (omega arith);
              in_set = λ _ d. omega (
                arith,
                rw (leaves-two v (apart v p o z) nz d) at (sizes v p),
                pieces v p,
                odd_owned par c B owner v nz,
                children-on o,
              );
              in-none = λ _ e. omega (
                arith,
                rw (leaves-own v nz e) at (sizes v p),
                pieces v p,
                odd_owned par c B owner v nz,
                children-on o,
              );
            }

        dual-path : on_path R I D O v ≡ 1 → Dual v
        dual-path h =
            let r = path-set v p h in
            let nz : owner v ≢ 0 = λ e. site-zero R I D (goal_end R I D v p).0 (sym (on_yes R I D O v p r.1).1 ∙ e) in
            record {
              on-path = λ _. omega (arith, rw (leaves-same v r.2) at (sizes v p), pieces v p, odd_owned par c B owner v nz, children-on r.1);
              in_set = λ z. absurd (omega arith);
              in-none = λ z. absurd (omega arith);
            }

        dual-kept : on v ≡ 0 → on_path R I D O v ≡ 0 → B v ≤ c v → owner v ≡ owner (par v) → Dual v
        dual-kept o z l e =
            let m = off-inner o in
            let f = fine R I v p in
            let s = interval_whole (I.link v p) (f.site_order m) (f.site_parity m) l in
            let same = rw (leaves-same v e) at (sizes v p) in
            record {
              on-path = λ h. absurd (omega arith);
              in_set = λ _ d. let nz : owner v ≢ 0 = λ q. d (sym e ∙ q) in omega (arith, pieces v p, odd_owned par c B owner v nz, children-in o nz);
              in-none = λ _ q. let n : owner v ≡ 0 = e ∙ q in same? (c v) 0
                  (λ y. omega (arith, pieces v p, odd_zero par c B owner v n q y, children-free o n))
                  (λ y. omega (arith, pieces v p, odd_more par c B owner v n q y, children-free o n));
            }

        dual-free : on v ≡ 0 → on_path R I D O v ≡ 0 → (2 ≤ A v → A v ≤ c v) → c v < B v → owner v ≡ 0 → Dual v
        dual-free o z h l n =
            let m = off-inner o in
            let f = fine R I v p in
            let x = children-free o n in
            record {
              on-path = λ h. absurd (omega arith);
              in_set = λ _ d. omega (
                arith,
                rw (leaves-up v n d) at (sizes v p),
                pieces v p,
                odd_up par c B owner v n d,
                x,
                free_up (I.link v p) (f.site_order m) (f.site_parity m) h l,
              );
              in-none = λ _ q.
                  let same = rw (leaves-same v (n ∙ sym q)) at (sizes v p) in
                  same? (c v) 0
                  (λ y. omega (arith, pieces v p, odd_zero par c B owner v n q y, x, free_zero (I.link v p) (f.site_order m) (f.site_parity m) h y))
                  (λ y. omega (arith, pieces v p, odd_more par c B owner v n q y, x, free_more (I.link v p) h y));
            }

        dual-case : Choice (A v) (B v) (c v) (on_path R I D O v) (owner (par v)) (goal v) (owner v) (on v) → on_path R I D O v ≡ 0 → Dual v
        dual-case (Choice.head k l o r) z = dual-head o l z
        dual-case (Choice.chain k l o r) z = absurd (omega arith)
        dual-case (Choice.kept n l o r) z = dual-kept o z l r
        dual-case (Choice.free n l o r) z = dual-free o z (λ h. (n h).0) l r

      dual : (v : ℕ) → 1 ≤ count us v → Dual v
      dual = children-first R Dual (λ v p ih. same? (on_path R I D O v) 1 (λ h. dual-path v p ih h) (λ z. dual-case v p ih (O.rule v p) (path-no v z)))

    pub parts_sum : {K : ℕ → ℕ} → Bases us par c term A a b K
        → over us (λ v. c v * part v) ≡ children us par 0 K + over us odds
    parts_sum {K} Q =
        let G = gather R (λ v. c v * part v) in
        let H = gather R odds in
        omega (
          arith,
          tree-sum us par R.root_free R.once R.home (λ v. c v * part v) G.0 G.1,
          tree-sum us par R.root_free R.once R.home odds H.0 H.1,
          children-add us par 0 K H.0,
          children-eq us par 0 G.0 (λ w. K w + H.0 w) (λ w i.
              let f = fine R I w i.site in
              let z = I.bare w i.site i.parent in
              let off : on (par w) ≢ 1 = λ e. omega (arith, O.off, rw i.parent at e) in
              omega (arith, (dual Q G.0 H.0 G.1 H.1 w i.site).in-none (path_off R I D O w off) (ap owner i.parent ∙ O.nobody))),
        )

    -- ---- the links that leave the sets, set by set

    -- a terminal, counted over the terminals
    met : (o : ℕ) → (o ≡ 0) ⊎ ((1 ≤ count us o) × (term o ≡ 1)) → over us (λ t. is (term t) 1 * is o t) ≡ differ o 0
    met o h = omega (
      arith,
      over-eq us (λ t. is (term t) 1 * is o t) (λ t. is t o * is (term t) 1) (λ t p. rw (is_iff o t t o sym sym) (omega arith)),
      over-is us o (λ t. is (term t) 1),
      size h,
    )
      where
        size : (o ≡ 0) ⊎ ((1 ≤ count us o) × (term o ≡ 1)) → count us o * is (term o) 1 ≡ differ o 0
        size (inl e) = rw (e, R.root_free, differ_same {u = 0} refl) (omega arith)
        size (inr h) =
            let one : count us o ≡ 1 = omega (arith, R.once o, h.0) in
            rw (one, h.1, is_same {u = 1} refl, differ-other (site-zero R I D h.0)) refl

    one_of : (o u t : ℕ) → o ≢ u → differ (is o t) (is u t) ≡ is o t + is u t
    one_of o u t d = same? o t
        (λ e. let n : u ≢ t = λ z. d (e ∙ sym z) in rw (is_same e, is-other n, differ-other {u = 1} {v = 0} (λ z. omega arith)) refl)
        (λ n. same? u t
        (λ e. rw (is-other n, is_same e, differ-other {u = 0} {v = 1} (λ z. omega arith)) refl)
        (λ k. rw (is-other n, is-other k, differ_same {u = 0} refl) refl))

    count-leaves : (v : ℕ) → 1 ≤ count us v → over us (λ t. is (term t) 1 * differ (is (owner v) t) (is (owner (par v)) t)) ≡ part v
    unfolding leaves
    count-leaves v p =
        let o = owner v in
        let u = owner (par v) in
        let above = owner-end R I D O (par v) (same? (par v) 0 inr (λ d. inl (R.home v p d))) in
        same? o u
        (λ e. omega (
          arith,
          over_none us,
          over-eq us (λ t. is (term t) 1 * differ (is o t) (is u t)) (λ t. 0)
              (λ t q. rw (e, differ_same {u = is u t} refl) (omega arith)),
          leaves-same v e,
        ))
        (λ d. rw (differ-other d) (omega (
          arith,
          over-eq us (λ t. is (term t) 1 * differ (is o t) (is u t)) (λ t. is (term t) 1 * is o t + is (term t) 1 * is u t)
              (λ t q. rw (one_of o u t d) (omega arith)),
          over_add us (λ t. is (term t) 1 * is o t) (λ t. is (term t) 1 * is u t),
          met o (owner-end R I D O v (inl p)),
          met u above,
        )))

    set-sizes : over us (λ t. is (term t) 1 * set_size us par c term owner t) ≡ over us (λ v. c v * part v)
    unfolding set_size
    set-sizes =
        let d : ℕ → ℕ → ℕ = λ t v. differ (is (owner v) t) (is (owner (par v)) t) in
        over-eq us (λ t. is (term t) 1 * over us (λ v. d t v * c v)) (λ t. over us (λ v. is (term t) 1 * (d t v * c v)))
        (λ t p. sym (over-mul us (is (term t) 1) (λ v. d t v * c v)))
        ∙ turn us us (λ t v. is (term t) 1 * (d t v * c v))
        ∙ over-eq us (λ v. over us (λ t. is (term t) 1 * (d t v * c v))) (λ v. c v * part v)
        (λ v p. over-eq us (λ t. is (term t) 1 * (d t v * c v)) (λ t. c v * (is (term t) 1 * d t v)) (λ t q. omega arith)
        ∙ over-mul us (c v) (λ t. is (term t) 1 * d t v) ∙ ap (λ z. c v * z) (count-leaves v p))

    -- part 4 of the theorem: the sizes of the sets are what the loads bring to the terminals and the odd pieces together
    pub sizes-total : {load : ℕ → ℕ} → Outwards us par c term B b top load
        → over us (λ t. is (term t) 1 * set_size us par c term owner t) ≡ at_ends us par c term load + over us odds
    sizes-total X = let K = bases R I in omega (arith, set-sizes, parts_sum K.1, reached R I X K.1)
