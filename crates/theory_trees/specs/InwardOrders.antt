-- The elimination order decides whether n sites with n - 1 links, none from a site to itself, are a tree.
-- In an order from outside inward each site adds at most one link to those behind it; with n - 1 links each adds one, and so is joined to them.
use Rattle.std.specs.Prelude.{◌≡◌, ◌≢◌, ℕ, suc, ◌+◌, ◌-◌, ◌*◌, ◌≤◌, ◌<◌, length}
use Rattle.std.proofs.Math.Path.{refl, sym, ap}
use Rattle.std.proofs.Common.{◌∙◌}
use Rattle.std.proofs.Math.Logic.{inl, inr}
use mathlib.Core.List.{List, [], ◌∷◌}
use native.Mathlib.Omega.{arith}
use Rattle.std.proofs.Math.Nat.{mul-le-mul}
use Rattle.lists.specs.Numbers.{is, sum, count}
use Rattle.model.specs.Flows.{Links, Ends, Tree, one, two, at, sum_at, label}
use Rattle.model.specs.Trimming.{unvisited, Inward, InwardOrder}
use Rattle.lists.specs.Sums.{is_same, is-other, same?, sum_one, sum-none, sum-add, sum-eq, sum-le, sum-some}
use Rattle.theory_trees.specs.Labels.{linked}
use Rattle.theory_trees.specs.Trees.{at-le, at_first, at_second, at_none, at-end}

module _ (ls : Links) (apart : (i : ℕ) → i < length ls → one ls i ≢ two ls i) where
  -- a site v put before the others: its links to them are new, those among them stay
  unvisited-cons : (v : ℕ) (vs : List ℕ) → count vs v ≡ 0 → (i : ℕ) → i < length ls
      → unvisited ls (v ∷ vs) i ≡ at ls v i * unvisited ls (v ∷ vs) i + unvisited ls vs i
  unfolding unvisited count
  unvisited-cons v vs z i l = same? v (one ls i)
      (λ e. let o : is v (one ls i) ≡ 1 = is_same e in
      let c : count vs (one ls i) ≡ 0 = rw e at z in
      rw (at_first ls i (sym e), o, c) (omega arith))
      (λ p. same? v (two ls i)
      (λ e. let c : count vs (two ls i) ≡ 0 = rw e at z in
      rw (at_second ls i (sym e), c) (omega arith))
      (λ q. rw (at_none ls i (λ e. p (sym e)) (λ e. q (sym e)), is-other p, is-other q) (omega arith)))

  among : (v : ℕ) (vs : List ℕ) → count vs v ≡ 0
      → sum (length ls) (unvisited ls (v ∷ vs)) ≡ sum_at ls v (unvisited ls (v ∷ vs)) + sum (length ls) (unvisited ls vs)
  unfolding sum_at
  among v vs z = sum-eq (length ls) (unvisited ls (v ∷ vs)) (λ i. at ls v i * unvisited ls (v ∷ vs) i + unvisited ls vs i) (unvisited-cons v vs z)
      ∙ sum-add (length ls) (λ i. at ls v i * unvisited ls (v ∷ vs) i) (unvisited ls vs)

  -- a link of v among v and vs leads to a site of vs
  leads : (v : ℕ) (vs : List ℕ) → 1 ≤ sum_at ls v (unvisited ls (v ∷ vs)) → (w : ℕ) × (1 ≤ count vs w) × (label ls v ≡ label ls w)
  unfolding unvisited count sum_at
  leads v vs h =
      let r = sum-some (length ls) (λ i. at ls v i * unvisited ls (v ∷ vs) i) h in
      let i = r.0 in
      let A = one ls i in
      let B = two ls i in
      let other : (x : ℕ) → v ≢ x → (k : ℕ) → 1 ≤ at ls v i * (k * (is v x + count vs x)) → 1 ≤ count vs x
      = λ x d k u. same? (count vs x) 0 (λ z. absurd (omega (arith, rw (is-other d, z) at u))) (λ z. omega arith) in
      same? (at ls v i) 1
      (λ a. elim (at-end ls i a) [
        | inl e ↦ (B, other B (λ z. apart i r.1 (e ∙ z)) (is v A + count vs A) r.2, ap (label ls) (sym e) ∙ linked ls i r.1)
        | inr e ↦ (
          A,
          other A (λ z. apart i r.1 (sym (e ∙ z))) (is v B + count vs B) (omega (arith, r.2)),
          ap (label ls) (sym e) ∙ sym (linked ls i r.1),
        )
      ])
      (λ a. let z : at ls v i ≡ 0 = omega (arith, at-le ls v i) in absurd (omega (arith, rw z at r.2)))

  -- the sites of the order have among them at least one link fewer than they are
  among_few : (vs : List ℕ) → Inward ls vs → sum (length ls) (unvisited ls vs) ≤ length vs - 1
  unfolding unvisited count
  among_few [] h = omega (arith, sum-none (length ls))
  among_few (v ∷ []) h = same? (sum_at ls v (unvisited ls (v ∷ []))) 0
      (λ e. omega (arith, among v [] refl, among_few [] tt))
      (λ d. absurd (omega (arith, (leads v [] (omega arith)).1)))
  among_few (v ∷ w ∷ ws) h = omega (arith, among v (w ∷ ws) h.0, h.1, among_few (w ∷ ws) h.2)

  -- and if just one fewer, they are joined
  among-joined : (vs : List ℕ) → Inward ls vs → length vs ≤ suc (sum (length ls) (unvisited ls vs))
      → (x y : ℕ) → 1 ≤ count vs x → 1 ≤ count vs y → label ls x ≡ label ls y
  unfolding count
  among-joined [] h e x y p q = absurd (omega arith)
  among-joined (v ∷ []) h e x y p q =
      let own : (x : ℕ) → 1 ≤ is v x + 0 → v ≡ x = λ x u. same? v x (λ z. z) (λ d. absurd (omega (arith, is-other d))) in
      ap (label ls) (sym (own x p) ∙ own y q)
  among-joined (v ∷ w ∷ ws) h e x y p q =
      let a = among v (w ∷ ws) h.0 in
      let b = among_few (w ∷ ws) h.2 in
      let r = leads v (w ∷ ws) (omega (arith, h.1)) in
      let ih = among-joined (w ∷ ws) h.2 (omega (arith, h.1)) in
      let to : (x : ℕ) → 1 ≤ is v x + (is w x + count ws x) → label ls x ≡ label ls r.0
      = λ x u. same? v x (λ z. ap (label ls) (sym z) ∙ r.2) (λ d. ih x r.0 (omega (arith, is-other d)) r.1) in
      to x p ∙ sym (to y q)

  -- so they are a tree
  pub the_order_joins_all : {n : ℕ} → 2 ≤ n → Ends ls n → n ≡ suc (length ls)
      → (order : List ℕ) → length order ≡ n → InwardOrder ls n order → Tree ls n
  unfolding unvisited
  the_order_joins_all {n} big ends links order len o = record {
    big = big;
    ends = ends;
    links = links;
    whole = λ x p. among-joined order o.inward
        (omega (
          arith,
          sum_one (length ls),
          sum-le (length ls) (λ i. 1) (unvisited ls order)
              (λ i l. mul-le-mul (o.all (one ls i) (ends i l).0) (o.all (two ls i) (ends i l).1)),
        ))
        x 1 (o.all x p) (o.all 1 (omega arith, omega arith));
  }
