-- The way inward: what is kept while the sites are taken one by one, and what holds of the intervals in the end. By an invariant: every site that is
-- taken has its values by those of its children, `most` is the sum over the children taken so far, and `top` is the one of them with the greatest `high`.
use Rattle.std.specs.Prelude.{◌≡◌, ◌≢◌, ◌⊎◌, ℕ, ◌+◌, ◌*◌, ◌-◌, ◌%◌, ◌≤◌, min, max, length}
use Rattle.std.proofs.Math.Path.{refl, sym, ap, ap₂}
use Rattle.std.proofs.Common.{◌∙◌}
use Rattle.std.proofs.Math.Logic.{inl, inr, ite, if_pos, if_neg}
use mathlib.Core.List.{List, [], ◌∷◌}
use native.Mathlib.Omega.{arith}
use Rattle.std.proofs.Math.Decide.{dec_lt}
use Rattle.lists.specs.Numbers.{pick, count}
use Rattle.lists.specs.Sums.{pick_same, pick_other, pick_const, is_same, is-other, same?, cases}
use Rattle.model.specs.WholeLoads.{put, lowest, highest, Intervals, no_intervals, new_top, least_at, take, take_all}
use Rattle.theory_whole.specs.Numbers.{Link}
use Rattle.theory_whole.specs.Rooted.{children, Child, children-eq, children_eq_but, children-none, Rooted}
use Rattle.theory_whole.specs.Order.{Taken, Plain, place, rooted}
use Rattle.theory_whole.specs.Loads.{Inwards}
use Rattle.theory_whole.specs.Sets.{Chains}

pub put_same : (f : ℕ → ℕ) (x y : ℕ) → put f x y x ≡ y
unfolding put
put_same f x y = pick_same {u = x} refl y (f x)

pub put_other : (f : ℕ → ℕ) {x : ℕ} (y : ℕ) {z : ℕ} → z ≢ x → put f x y z ≡ f z
unfolding put
put_other f y {z} d = pick_other d y (f z)

high_le : (A B k : ℕ) → highest A B k ≤ k
unfolding highest
high_le A B k = cases (dec_lt k A)
    (λ l. rw (if_pos (dec_lt k A) l) (omega arith))
    (λ l. rw (if_neg (dec_lt k A) l) (omega arith))

pub link_of_lem : (A B k : ℕ) → Link A B k (lowest A k) (highest A B k)
unfolding lowest highest
link_of_lem A B k = cases (dec_lt k A)
    (λ l. Link.closed l (omega arith) (if_pos (dec_lt k A) l k (min B (k - (k + B) % 2))))
    (λ l. Link.opened (omega arith) (omega arith) (if_neg (dec_lt k A) l k (min B (k - (k + B) % 2))))

module _ (par c term : ℕ → ℕ) where
  -- the values of a site that is taken
  pub record Row (s : Intervals) (v : ℕ) : Type 0 where
    pub least_is : s.least v ≡ least_at par c term s v
    pub low-is : s.low v ≡ lowest (s.least v) (c v)
    pub high_is : s.high v ≡ highest (s.least v) (s.most v) (c v)
    pub goal_is : s.goal v ≡ pick (term v) 1 v (s.goal (s.top v))

  module _ (us : List ℕ) (once : (x : ℕ) → count us x ≤ 1) (root_free : count us 0 ≡ 0) where
    -- no child of p is taken, or t is the one with the greatest b
    abbrev pub Best : List ℕ → (ℕ → ℕ) → ℕ → ℕ → Type 0
    Best rest b p t = ((t ≡ 0) × ((w : ℕ) → Child us par p w → 1 ≤ count rest w))
        ⊎ (Child us par p t × (count rest t ≡ 0) × ((w : ℕ) → Child us par p w → count rest w ≡ 0 → b w ≤ b t))

    -- with the sites of rest still to be taken
    pub record Inv (rest : List ℕ) (s : Intervals) : Type 0 where
      pub untaken : (x : ℕ) → 1 ≤ count rest x → s.high x ≡ 0
      pub no_b : s.high 0 ≡ 0
      pub no_top : s.top 0 ≡ 0
      pub sum : (p : ℕ) → s.most p ≡ children us par p s.high
      pub end : (p : ℕ) → 1 ≤ count us p → term p ≡ 1 → s.top p ≡ 0
      pub best : (p : ℕ) → 1 ≤ count us p → term p ≢ 1 → Best rest s.high p (s.top p)
      pub rows : (v : ℕ) → 1 ≤ count us v → count rest v ≡ 0 → Row s v

    module _ (v : ℕ) (vs : List ℕ) (h : Taken par (v ∷ vs)) (q : 1 ≤ count us v) (s : Intervals) (i : Inv (v ∷ vs) s) where
      abbrev s' : Intervals
      s' = take par c term s v

      abbrev hi : ℕ
      hi = highest (least_at par c term s v) (s.most v) (c v)

      -- what is in rest and is not v comes later
      here : 1 ≤ count (v ∷ vs) v
      unfolding count
      here = omega (arith, is_same {u = v} refl)

      later : (x : ℕ) → x ≢ v → count (v ∷ vs) x ≡ count vs x
      unfolding count
      later x d = omega (arith, is-other {u = v} {v = x} (λ e. d (sym e)))

      up : par v ≢ v
      up e = elim h.2 [ inl z ↦ h.1 (sym e ∙ z) | inr z ↦ omega (arith, h.0, rw e at z) ]

      taken-up : (x : ℕ) → 1 ≤ count us x → count vs x ≡ 0 → x ≢ par v
      taken-up x p z e = elim h.2 [
        | inl y ↦ omega (arith, root_free, rw (e ∙ y) at p)
        | inr y ↦ omega (arith, rw (← e) at y)
      ]

      b-new : s'.high v ≡ hi
      unfolding take
      b-new = put_same s.high v hi

      b-old : (x : ℕ) → x ≢ v → s'.high x ≡ s.high x
      unfolding take
      b-old x d = put_other s.high hi d

      top-old : (x : ℕ) → x ≢ par v → s'.top x ≡ s.top x
      unfolding take
      top-old x d = put_other s.top (new_top par c term (par v) (s.top (par v)) (s.high (s.top (par v))) v hi) d

      top-new : s'.top (par v) ≡ new_top par c term (par v) (s.top (par v)) (s.high (s.top (par v))) v hi
      unfolding take
      top-new = put_same s.top (par v) (new_top par c term (par v) (s.top (par v)) (s.high (s.top (par v))) v hi)

      sum-new : (p : ℕ) → s'.most p ≡ children us par p s'.high
      unfolding take
      sum-new p = same? p (par v)
          (λ e. rw e (put_same s.most (par v) (s.most (par v) + hi) ∙ omega (
            arith,
            i.sum (par v),
            i.untaken v here,
            b-new,
            children_eq_but us par once (par v) v s'.high s.high (record { site = q; parent = refl }) (λ w k d. b-old w d),
          )))
          (λ d. put_other s.most (s.most (par v) + hi) d ∙ i.sum p
          ∙ sym (children-eq us par p s'.high s.high (λ w k. b-old w (λ e. d (sym k.parent ∙ ap par e)))))

      zero-top : s'.top 0 ≡ 0
      unfolding new_top
      zero-top = same? 0 (par v)
          (λ e. ap s'.top e ∙ top-new ∙ pick_same (sym e) 0
          (pick (term (par v)) 1 0 (pick (s.top (par v)) 0 v (ite (dec_lt (s.high (s.top (par v))) hi) v (s.top (par v))))))
          (λ d. top-old 0 d ∙ i.no_top)

      end-new : (p : ℕ) → 1 ≤ count us p → term p ≡ 1 → s'.top p ≡ 0
      unfolding new_top
      end-new p k m = same? p (par v)
          (λ e. let m' : term (par v) ≡ 1 = ap term (sym e) ∙ m in
          ap s'.top e ∙ top-new ∙ rw (pick_same m') (pick_const (par v) 0 0))
          (λ d. top-old p d ∙ i.end p k m)

      best-other : (p : ℕ) → p ≢ par v → Best (v ∷ vs) s.high p (s.top p) → Best vs s'.high p (s.top p)
      best-other p d (inl r) = inl (r.0, λ w k. let n : w ≢ v = λ e. d (sym k.parent ∙ ap par e) in rw (later w n) at (r.1 w k))
      best-other p d (inr r) =
          let t = s.top p in
          let n : t ≢ v = λ e. d (sym r.0.parent ∙ ap par e) in
          inr (
            r.0,
            rw (later t n) at r.1,
            λ w k z.
                let m : w ≢ v = λ e. d (sym k.parent ∙ ap par e) in
                rw (b-old w m, b-old t n) (r.2 w k (later w m ∙ z)),
          )

      best-parent : term (par v) ≢ 1 → par v ≢ 0 → Best (v ∷ vs) s.high (par v) (s.top (par v)) → Best vs s'.high (par v) (s'.top (par v))
      unfolding new_top
      best-parent m n (inl r) =
          let old = s.top (par v) in
          let e : s'.top (par v) ≡ v = top-new ∙ rw (pick_other n, pick_other m) (pick_same r.0 v (ite (dec_lt (s.high old) hi) v old)) in
          rw e (inr (
            record { site = q; parent = refl },
            h.0,
            λ w k z. same? w v
                (λ y. rw y (omega arith))
                (λ y. absurd (omega (arith, r.1 w k, later w y))),
          ))
      best-parent m n (inr r) =
          let old = s.top (par v) in
          let nz : old ≢ 0 = λ e. omega (arith, root_free, rw e at r.0.site) in
          let nv : old ≢ v = λ e. omega (arith, here, rw e at r.1) in
          let e : s'.top (par v) ≡ ite (dec_lt (s.high old) hi) v old
          = top-new ∙ rw (pick_other n, pick_other m) (pick_other nz v (ite (dec_lt (s.high old) hi) v old)) in
          rw e (cases (dec_lt (s.high old) hi)
          (λ l. rw (if_pos (dec_lt (s.high old) hi) l) (inr (
            record { site = q; parent = refl },
            h.0,
            λ w k z. same? w v
                (λ y. rw y (omega arith))
                (λ y. omega (arith, b-new, b-old w y, r.2 w k (later w y ∙ z))),
          )))
          (λ l. rw (if_neg (dec_lt (s.high old) hi) l) (inr (
            r.0,
            rw (later old nv) at r.1,
            λ w k z. same? w v
                (λ y. omega (arith, b-new, b-old old nv, ap s'.high y))
                (λ y. omega (arith, b-old old nv, b-old w y, r.2 w k (later w y ∙ z))),
          ))))

      -- the child `top` of a taken site is not v
      top_apart : (x : ℕ) → 1 ≤ count us x → (count (v ∷ vs) x ≡ 0) ⊎ (x ≡ v) → s.top x ≢ v
      top_apart x p z e = same? (term x) 1
          (λ m. h.1 (sym e ∙ i.end x p m))
          (λ m. elim (i.best x p m) [
            | inl r ↦ h.1 (sym e ∙ r.0)
            | inr r ↦ omega (arith, here, rw e at r.1)
          ])

      row_new : Row s' v
      unfolding take
      row_new =
          let t = s.top v in
          let A = least_at par c term s v in
          let d : v ≢ par v = λ e. up (sym e) in
          let n = top_apart v q (inr refl) in
          let eA : s'.least v ≡ A = put_same s.least v A in
          let eB : s'.most v ≡ s.most v = put_other s.most (s.most (par v) + hi) d in
          let ea : s'.low t ≡ s.low t = put_other s.low (lowest A (c v)) n in
          let eb : s'.high t ≡ s.high t = b-old t n in
          let ed : s'.goal t ≡ s.goal t = put_other s.goal (pick (term v) 1 v (s.goal t)) n in
          record {
            least_is = eA ∙ sym (cong-A (top-old v d) eB ea eb);
            low-is = put_same s.low v (lowest A (c v)) ∙ ap (λ z. lowest z (c v)) (sym eA);
            high_is = b-new ∙ ap₂ (λ y z. highest y z (c v)) (sym eA) (sym eB);
            goal_is = put_same s.goal v (pick (term v) 1 v (s.goal t)) ∙ ap (pick (term v) 1 v) (sym (ap s'.goal (top-old v d) ∙ ed));
          }
        where
          cong-A : s'.top v ≡ s.top v → s'.most v ≡ s.most v → s'.low (s.top v) ≡ s.low (s.top v) → s'.high (s.top v) ≡ s.high (s.top v)
              → least_at par c term s' v ≡ least_at par c term s v
          cong-A e f g k = unfold least_at in rw (e, f, g, k) refl

      row_old : (x : ℕ) → 1 ≤ count us x → x ≢ v → count vs x ≡ 0 → Row s x → Row s' x
      unfolding take
      row_old x p n z r =
          let d = taken-up x p z in
          let t = s.top x in
          let nt = top_apart x p (inl (later x n ∙ z)) in
          let A = least_at par c term s v in
          let eA : s'.least x ≡ s.least x = put_other s.least A n in
          let eB : s'.most x ≡ s.most x = put_other s.most (s.most (par v) + hi) d in
          let ea : s'.low t ≡ s.low t = put_other s.low (lowest A (c v)) nt in
          let ed : s'.goal t ≡ s.goal t = put_other s.goal (pick (term v) 1 v (s.goal (s.top v))) nt in
          record {
            least_is = eA ∙ r.least_is ∙ sym (cong-A (top-old x d) eB ea (b-old t nt));
            low-is = put_other s.low (lowest A (c v)) n ∙ r.low-is ∙ ap (λ y. lowest y (c x)) (sym eA);
            high_is = b-old x n ∙ r.high_is ∙ ap₂ (λ y w. highest y w (c x)) (sym eA) (sym eB);
            goal_is = put_other s.goal (pick (term v) 1 v (s.goal (s.top v))) n ∙ r.goal_is
                ∙ ap (pick (term x) 1 x) (sym (ap s'.goal (top-old x d) ∙ ed));
          }
        where
          cong-A : s'.top x ≡ s.top x → s'.most x ≡ s.most x → s'.low (s.top x) ≡ s.low (s.top x) → s'.high (s.top x) ≡ s.high (s.top x)
              → least_at par c term s' x ≡ least_at par c term s x
          cong-A e f g k = unfold least_at in rw (e, f, g, k) refl

      pub inv_next : Inv vs s'
      inv_next = record {
        untaken = λ x p. let n : x ≢ v = λ e. omega (arith, h.0, rw e at p) in b-old x n ∙ i.untaken x (rw (later x n) p);
        no_b = b-old 0 (λ e. h.1 (sym e)) ∙ i.no_b;
        no_top = zero-top;
        sum = sum-new;
        end = end-new;
        best = λ p k m. same? p (par v)
            (λ e. rw e (best-parent (λ y. m (ap term e ∙ y)) (λ y. omega (arith, root_free, rw (e ∙ y) at k))
            (i.best (par v) (rw e at k) (λ y. m (ap term e ∙ y)))))
            (λ d. rw (top-old p d) (best-other p d (i.best p k m)));
        rows = λ x p z. same? x v
            (λ e. rw e row_new)
            (λ n. row_old x p n z (i.rows x p (later x n ∙ z)));
      }

    pub inv_all : (vs : List ℕ) → Taken par vs → ((x : ℕ) → 1 ≤ count vs x → 1 ≤ count us x) → (s : Intervals) → Inv vs s → Inv [] (take_all par c term vs s)
    unfolding take_all count
    inv_all [] h sub s i = i
    inv_all (v ∷ vs) h sub s i =
        let q = sub v (omega (arith, is_same {u = v} refl)) in
        inv_all vs h.3 (λ x p. sub x (omega arith)) (take par c term s v) (inv_next v vs h q s i)

    pub inv_none : Inv us no_intervals
    inv_none = record {
      untaken = λ x p. refl;
      no_b = refl;
      no_top = refl;
      sum = λ p. sym (children-none us par p);
      end = λ p k m. refl;
      best = λ p k m. inl (refl, λ w i. i.site);
      rows = λ v p z. absurd (omega arith);
    }

  -- however many sites are taken, `most` has grown by at most the greatest capacity for each
  pub most_is_small : (M : ℕ) → ((v : ℕ) → c v ≤ M) → (vs : List ℕ) (s : Intervals) (p : ℕ) → (take_all par c term vs s).most p ≤ s.most p + M * length vs
  unfolding take_all
  most_is_small M h [] s p = omega arith
  most_is_small M h (v ∷ vs) s p = omega (arith, most_is_small M h vs (take par c term s v) p, grown)
    where
      grown : (take par c term s v).most p ≤ s.most p + M
      grown = unfold take in let hi = highest (least_at par c term s v) (s.most v) (c v) in same? p (par v)
          (λ e. rw e (omega (arith, put_same s.most (par v) (s.most (par v) + hi), high_le (least_at par c term s v) (s.most v) (c v), h v)))
          (λ d. omega (arith, put_other s.most (s.most (par v) + hi) d))

module _ {us : List ℕ} {par c term : ℕ → ℕ} (H : Plain us par c term) where
  R : Rooted us par (place us)
  R = rooted par us H.taken

  s : Intervals
  s = take_all par c term us no_intervals

  inv : Inv par c term us R.once R.root_free [] s
  unfolding s
  inv = inv_all par c term us R.once R.root_free us H.taken (λ x p. p) no_intervals (inv_none par c term us R.once R.root_free)

  row_of : (v : ℕ) → 1 ≤ count us v → Row par c term s v
  unfolding count
  row_of v p = inv.rows v p refl

  top_of : (v : ℕ) → 1 ≤ count us v → term v ≢ 1 → Child us par v (s.top v) × ((w : ℕ) → Child us par v w → s.high w ≤ s.high (s.top v))
  unfolding count
  top_of v p m = elim (inv.best v p m) [
    | inl r ↦ let k = H.joint v p m in absurd (omega (arith, r.1 k.0 k.1))
    | inr r ↦ (r.0, λ w k. r.2 w k refl)
  ]

  -- what the loop inward leaves has the properties asked for
  pub loop_inwards : Inwards us par c term (take_all par c term us no_intervals).least (take_all par c term us no_intervals).most
      (take_all par c term us no_intervals).low (take_all par c term us no_intervals).high (take_all par c term us no_intervals).top
  unfolding s least_at
  loop_inwards = record {
    bare = H.bare;
    link = λ v p. let r = row_of v p in rw (r.low-is, r.high_is) (link_of_lem (s.least v) (s.most v) (c v));
    sum = λ v p. inv.sum v;
    wide = λ v p m. let t = s.top v in
        omega (arith, (row_of v p).least_is, pick_same m (c v + 2) (max (s.low t + s.high t - s.most v) (s.most v % 2)));
    site = λ v p m. let t = s.top v in
        (row_of v p).least_is ∙ pick_other m (c v + 2) (max (s.low t + s.high t - s.most v) (s.most v % 2));
    child = λ v p m. (top_of v p m).0;
    most = λ v w p m k. (top_of v p m).1 w k;
  }

  pub loop_chains : Chains us par c term (take_all par c term us no_intervals).least (take_all par c term us no_intervals).top
      (take_all par c term us no_intervals).goal
  unfolding s least_at
  loop_chains = record {
    wide = λ v p m. let t = s.top v in
        omega (arith, (row_of v p).least_is, pick_same m (c v + 2) (max (s.low t + s.high t - s.most v) (s.most v % 2)));
    bare = inv.end;
    end = λ v p m. (row_of v p).goal_is ∙ pick_same m v (s.goal (s.top v));
    inner = λ v p m. (row_of v p).goal_is ∙ pick_other m v (s.goal (s.top v));
  }
