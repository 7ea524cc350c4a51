-- The decision whether two regions share one link tells it: by the names, which are different within a region, and since two sites of a tree have at most one
-- link between them.
use Rattle.std.specs.Prelude.{◌≡◌, ◌≢◌, ◌↔◌, ◌⊎◌}
use Rattle.std.proofs.Math.Path.{refl, sym}
use Rattle.std.proofs.Common.{ap, ◌∙◌}
use Rattle.std.proofs.Math.Logic.{inl, inr, ⊎_swap, ite, if_pos, if_neg}
use Prim.Native.Nat.{ℕ, suc, ◌+◌, ◌-◌, ◌*◌, ◌≤◌, ◌<◌}
use native.Mathlib.Omega.{arith}
use Rattle.std.proofs.Math.Decide.{dec_lt}
use Rattle.std.proofs.Math.ListN.{length}
use Rattle.lists.specs.Numbers.{pick, is, differ, sum, look}
use Rattle.lists.specs.Sums.{contradiction, same?, cases, pick_same, pick_other, pick_cases, is_same, is-other, differ_same, differ-other, differ-le}
use Rattle.lists.specs.Sums.{product_one, sum-add, sum-eq, sum_eq_but, sum-two, sum-single}
use Rattle.model.specs.Flows.{Site, one, two, at}
use Rattle.theory_trees.specs.Trees.{at-le}
use Rattle.theory_walk.specs.Regions.{differ-one}
use Rattle.theory_regions.specs.Regions.{Region, lone}
use Rattle.theory_regions.specs.JoinedTree.{Border}
use Rattle.theory_regions.specs.Sharing.{Named, SharesOneLink, Partners, first_from, Sharing, apart, sharing, commons, shared_first, shared_second}
use Rattle.theory_regions.specs.Sharing.{met, may_be_far, chosen, shared_at, sharing_of}
use Rattle.theory_regions.specs.Meeting.{link-sites}
use Rattle.theory_regions.proofs.FarSites.{lone_iff, lone-le}
use Rattle.theory_regions.specs.SharingLaws.{joins-both, one_is_found, tells_none, Tells, tells-some, partnered, partner-is, Partnered, sites-here, sites-there, near-partner, far-partner, near-or-far, the_first_is_found, the-second-is-found-for-it}

-- of a sum that is 2, two terms that are not 0 leave nothing for a third
third_is_none : (n i j k : ℕ) (f : ℕ → ℕ) → sum n f ≡ 2 → i < n → j < n → k < n → i ≢ j → k ≢ i → k ≢ j → 1 ≤ f i → 1 ≤ f j → f k ≡ 0
third_is_none n i j k f e li lj lk d di dj pi pj =
    let g : ℕ → ℕ = λ x. pick x i 0 (f x) in
    omega (
      arith,
      pick_same {A = ℕ} {u = i} refl 0 (f i),
      pick_other {A = ℕ} {u = j} {v = i} (λ q. d (sym q)) 0 (f j),
      pick_other {A = ℕ} di 0 (f k),
      sum_eq_but n i g f li (λ x p q. pick_other q 0 (f x)),
      sum-two n j k g lj lk (λ q. dj (sym q)),
    )

-- a site counted
site_once : (n x : ℕ) → Site n x → sum n (λ i. is (suc i) x) ≡ 1
site_once n x s =
    let back : suc (x - 1) ≡ x = omega arith in
    sum-single n (x - 1) (λ i. is (suc i) x) (omega arith) (λ i l d. is-other (λ e. d (omega arith))) ∙ is_same back

ite_cases : {P A : Type 0} (Q : A → Type 0) (h : Dec P) (x y : A) → (P → Q x) → (¬ P → Q y) → Q (ite h x y)
ite_cases Q h x y f g = cases h (λ p. rw (if_pos h p x y) (f p)) (λ p. rw (if_neg h p x y) (g p))

module _ {N : Type 0} {a b : Region} {name₁ name₂ : ℕ → N} (A : Named a name₁) (B : Named b name₂) (partner : ℕ → ℕ)
    (P : Partners a.sites b.sites name₁ name₂ partner) where
  -- different sites have different partners
  partners_differ : (x y : ℕ) → Site a.sites x → Site a.sites y → x ≢ y → partner x ≢ 0 → partner y ≢ 0 → partner x ≢ partner y
  partners_differ x y s r d fx fy e = d (A.different x y s r ((partnered A B partner P x s fx).1 ∙ ap name₂ e ∙ sym (partnered A B partner P y r fy).1))

  -- ---- what is decided holds

  -- x and y have the only names in common
  no_third : (x y : ℕ) → Site a.sites x → Site a.sites y → x ≢ y → commons a b partner ≡ 2 → partner x ≢ 0 → partner y ≢ 0
      → (z : ℕ) → Site a.sites z → partner z ≢ 0 → (z ≡ x) ⊎ (z ≡ y)
  unfolding commons
  no_third x y sx sy d two-names px py z sz pz =
      let f : ℕ → ℕ = λ i. differ (partner (suc i)) 0 in
      let seen : (w : ℕ) → Site a.sites w → partner w ≢ 0 → 1 ≤ f (w - 1) = λ w s e.
      let back : suc (w - 1) ≡ w = omega arith in rw back (omega (arith, differ-other e)) in
      same? z x inl (λ zx. same? z y inr (λ zy. absurd (omega (
        arith,
        third_is_none a.sites (x - 1) (y - 1) (z - 1) f two-names (omega arith) (omega arith) (omega arith)
            (λ e. d (omega arith)) (λ e. zx (omega arith)) (λ e. zy (omega arith)) (seen x sx px) (seen y sy py),
        seen z sz pz,
      ))))

  what_is_decided_holds : (j k x y : ℕ) → Partnered A B partner P j k x y → commons a b partner ≡ 2 → look a.capacities j ≡ look b.capacities k
      → may_be_far a b partner x y ≡ 1
      → SharesOneLink a b name₁ name₂ (record { shared = j; near = x; far = y }) (record { shared = k; near = partner y; far = partner x })
  unfolding may_be_far
  what_is_decided_holds j k x y L two-names size far =
      let s = link-sites A.tree L.here L.between in
      let far-ones = product_one (lone a y) (lone b (partner x)) (lone-le a y) far in
      let first-far = (lone_iff a y).0 far-ones.0 in
      let second-far = (lone_iff b (partner x)).0 far-ones.1 in
      let differ-there = partners_differ x y s.0 s.1 s.2 L.first L.second in
      record {
        near-far = (partnered A B partner P x s.0 L.first).1;
        far-near = (partnered A B partner P y s.1 L.second).1;
        no_other = λ z w sz sw e. no_third x y s.0 s.1 s.2 two-names L.first L.second z sz (λ h. omega (arith, partner-is A B partner P z w sz sw e));
        first-link = L.here;
        first-joins = L.between;
        second-link = L.there;
        second-joins = joins-both b.links k (partner y) (partner x) (λ e. differ-there (sym e)) L.second-there L.first-there;
        one_size = size;
        first-single = first-far.0;
        first_plain = first-far.1;
        second-single = second-far.0;
        second_plain = second-far.1;
      }

  -- the links that are found are so
  what_is_found : let j = shared_first a b partner in let k = shared_second a b partner j in
      j < length a.links → k < length b.links → Partnered A B partner P j k (one a.links j) (two a.links j)
  unfolding shared_first shared_second
  what_is_found l h =
      let ls = a.links in
      let ks = b.links in
      let test₁ : ℕ → ℕ = λ i. differ (partner (one ls i)) 0 * differ (partner (two ls i)) 0 in
      let j = first_from test₁ 0 (length ls) in
      let test₂ : ℕ → ℕ = λ i. at ks (partner (one ls j)) i * at ks (partner (two ls j)) i in
      let k = first_from test₂ 0 (length ks) in
      let both = product_one (differ (partner (one ls j)) 0) (differ (partner (two ls j)) 0) (differ-le (partner (one ls j)) 0)
      (one_is_found test₁ (length ls) (omega arith)) in
      let there = product_one (at ks (partner (one ls j)) k) (at ks (partner (two ls j)) k) (at-le ks (partner (one ls j)) k)
      (one_is_found test₂ (length ks) (omega arith)) in
      record {
        here = l;
        there = h;
        between = inl (refl, refl);
        first = differ-one both.0;
        second = differ-one both.1;
        first-there = there.0;
        second-there = there.1;
      }

  -- ---- what holds is decided
  module _ {p q : Border} (M : SharesOneLink a b name₁ name₂ p q) where
    two-in-common : commons a b partner ≡ 2
    unfolding commons
    two-in-common =
        let n = a.sites in
        let here = sites-here A B partner P M in
        let there = sites-there A B partner P M in
        let each : (i : ℕ) → i < n → differ (partner (suc i)) 0 ≡ is (suc i) p.near + is (suc i) p.far = λ i l. same? (suc i) p.near
        (λ e. rw (e, near-partner A B partner P M, is_same {u = p.near} refl, is-other here.2, differ-other {u = q.far} {v = 0} (λ z. omega arith)) refl)
        (λ dn. same? (suc i) p.far
        (λ e. rw (
          e,
          (far-partner A B partner P M),
          is_same {u = p.far} refl,
          is-other {u = p.far} {v = p.near} (λ z. here.2 (sym z)),
          differ-other {u = q.near} {v = 0} (λ z. omega arith),
        ) refl)
        (λ df. rw (is-other dn, is-other df) (same? (partner (suc i)) 0 differ_same
        (λ z. absurd (elim (near-or-far A B partner P M (suc i) (omega arith, omega arith) z) [ inl h ↦ dn h | inr h ↦ df h ]))))) in
        sum-eq n (λ i. differ (partner (suc i)) 0) (λ i. is (suc i) p.near + is (suc i) p.far) each
        ∙ sum-add n (λ i. is (suc i) p.near) (λ i. is (suc i) p.far)
        ∙ omega (arith, site_once n p.near here.0, site_once n p.far here.1)

    far-may-be-far : may_be_far a b partner p.near p.far ≡ 1
    unfolding may_be_far
    far-may-be-far =
        let first = (lone_iff a p.far).1 (M.first-single, M.first_plain) in
        let second = (lone_iff b q.far).1 (M.second-single, M.second_plain) in
        rw (near-partner A B partner P M, first, second) refl

    -- so the decision is not none: of its tests each holds
    one-may-be-far : let j = shared_first a b partner in let x = one a.links j in let y = two a.links j in
        (may_be_far a b partner x y ≡ 1) ⊎ (may_be_far a b partner y x ≡ 1)
    one-may-be-far = rw (the_first_is_found A B partner P M) (elim M.first-joins [
      | inl h ↦ inl (rw (h.0, h.1) far-may-be-far)
      | inr h ↦ inr (rw (h.0, h.1) far-may-be-far)
    ])

  -- the decision tells
  pub the_decision_tells : Tells a b name₁ name₂ (sharing_of a b partner)
  unfolding sharing_of shared_at chosen
  the_decision_tells =
      let Q = Tells a b name₁ name₂ in
      let j = shared_first a b partner in
      let k = shared_second a b partner j in
      let x = one a.links j in
      let y = two a.links j in
      let cj = look a.capacities j in
      let ck = look b.capacities k in
      pick_cases Q (commons a b partner) 2 (shared_at a b partner j k) apart
      (λ two-names. ite_cases Q (dec_lt j (length a.links)) (ite (dec_lt k (length b.links)) (pick cj ck (chosen a b partner j k) apart) apart) apart
      (λ here. ite_cases Q (dec_lt k (length b.links)) (pick cj ck (chosen a b partner j k) apart) apart
      (λ there. pick_cases Q cj ck (chosen a b partner j k) apart
      (λ size.
      let L = what_is_found here there in
      pick_cases Q (may_be_far a b partner x y) 1 (met a b partner j k x y) (pick (may_be_far a b partner y x) 1 (met a b partner j k y x) apart)
      (λ e. tells-some (what_is_decided_holds j k x y L two-names size e))
      (λ f. pick_cases Q (may_be_far a b partner y x) 1 (met a b partner j k y x) apart
      (λ e. tells-some (what_is_decided_holds j k y x (partnered-turned j k x y L) two-names size e))
      (λ g. tells_none (λ p q M. elim (one-may-be-far M) [ inl h ↦ f h | inr h ↦ g h ]))))
      (λ d. tells_none (λ p q M. d (rw (the-second-is-found-for-it A B partner P M, the_first_is_found A B partner P M) M.one_size))))
      (λ d. tells_none (λ p q M. d (rw (the-second-is-found-for-it A B partner P M) M.second-link))))
      (λ d. tells_none (λ p q M. d (rw (the_first_is_found A B partner P M) M.first-link))))
      (λ d. tells_none (λ p q M. d (two-in-common M)))
    where
      partnered-turned : (j k x y : ℕ) → Partnered A B partner P j k x y → Partnered A B partner P j k y x
      partnered-turned j k x y L = record {
        here = L.here;
        there = L.there;
        between = ⊎_swap L.between;
        first = L.second;
        second = L.first;
        first-there = L.second-there;
        second-there = L.first-there;
      }

  -- none exactly if nothing that is asked holds
  pub apart_exactly_if_no_link_is_shared : (sharing_of a b partner ≡ apart) ↔ ((p q : Border) → ¬ (SharesOneLink a b name₁ name₂ p q))
  apart_exactly_if_no_link_is_shared = by (sharing_of a b partner) the_decision_tells
    where
      by : (r : Sharing) → Tells a b name₁ name₂ r → (r ≡ apart) ↔ ((p q : Border) → ¬ (SharesOneLink a b name₁ name₂ p q))
      by apart (tells_none h) = (λ e. h, λ e. refl)
      by (sharing p q) (tells-some M) = (λ e. contradiction cc, λ h. absurd (h p q M))
