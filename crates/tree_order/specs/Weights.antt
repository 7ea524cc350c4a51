-- The unvisited links at a site, weighed: taking a site v with one unvisited link changes only what is at the link's other end.
use Rattle.std.specs.Prelude.{◌≡◌, refl, ◌≢◌, List, ℕ, ◌+◌, ◌-◌, ◌*◌, ◌≤◌, ◌<◌}
use Rattle.std.proofs.Common.{sym, ◌∙◌, inl, inr}
use Rattle.std.proofs.Math.Path.{ap}
use native.Mathlib.Omega.{arith}
use Rattle.std.proofs.Math.ListN.{length}
use Rattle.lists.specs.Numbers.{is, sum, count}
use Rattle.model.specs.Flows.{Links, one, two, at, sum_at}
use Rattle.model.specs.Trimming.{unvisited}
use Rattle.lists.specs.Sums.{is_same, is-other, same?, sum-none, sum-eq, sum_eq_but, sum_ge, sum_only}
use Rattle.theory_trees.specs.Trees.{at_first, at_second, at_none, at-le, at-end, sum_at_linear}
use Rattle.theory_trees.specs.Sites.{sum_at-same}

-- a sum with one term
sum-single : (n j : ℕ) (f : ℕ → ℕ) → j < n → ((i : ℕ) → i < n → i ≢ j → f i ≡ 0) → sum n f ≡ f j
sum-single n j f l h = omega (arith, sum_eq_but n j f (λ i. 0) l h, sum-none n)

-- the sum of h over the unvisited links at x
unfoldable pub weigh : Links → List ℕ → (ℕ → ℕ) → ℕ → ℕ
weigh ls us h x = sum_at ls x (λ i. unvisited ls us i * h i)

module _ (ls : Links) where
  pub weigh-one : (us : List ℕ) (x : ℕ) → weigh ls us (λ i. 1) x ≡ sum_at ls x (unvisited ls us)
  unfolding weigh
  weigh-one us x = sum_at-same ls x (λ i. unvisited ls us i * 1) (unvisited ls us) (λ i l a. omega arith)

  -- v is taken off us, which leaves rest
  module _ (us rest : List ℕ) (v : ℕ) (here : count us v ≡ 1) (was : (x : ℕ) → count us x ≡ is v x + count rest x) where
    -- a link of v is then visited, any other stays as it was
    unvisited-off : (i : ℕ) → i < length ls → unvisited ls us i ≡ at ls v i * unvisited ls us i + unvisited ls rest i
    unfolding unvisited
    unvisited-off i l =
        let gone : count rest v ≡ 0 = omega (arith, was v, is_same {u = v} refl) in
        same? v (one ls i)
        (λ e. let z : count rest (one ls i) ≡ 0 = rw e at gone in rw (at_first ls i (sym e), z) (omega arith))
        (λ p. same? v (two ls i)
        (λ e. let z : count rest (two ls i) ≡ 0 = rw e at gone in rw (at_second ls i (sym e), z) (omega arith))
        (λ q. rw (at_none ls i (λ e. p (sym e)) (λ e. q (sym e)), was (one ls i), was (two ls i), is-other p, is-other q) (omega arith)))

    weigh-off : (h : ℕ → ℕ) (x : ℕ) → weigh ls us h x ≡ sum_at ls x (λ i. at ls v i * unvisited ls us i * h i) + weigh ls rest h x
    unfolding weigh
    weigh-off h x =
        sum_at-same ls x (λ i. unvisited ls us i * h i) (λ i. 1 * (at ls v i * unvisited ls us i * h i) + unvisited ls rest i * h i)
        (λ i l a. ap (λ u. u * h i) (unvisited-off i l) ∙ omega arith)
        ∙ sum_at_linear ls x 1 (λ i. at ls v i * unvisited ls us i * h i) (λ i. unvisited ls rest i * h i) ∙ omega arith

    -- without an unvisited link at v nothing changes
    pub weigh-alone : sum_at ls v (unvisited ls us) ≡ 0 → (h : ℕ → ℕ) (x : ℕ) → weigh ls us h x ≡ weigh ls rest h x
    unfolding sum_at
    weigh-alone e h x =
        let none : (i : ℕ) → i < length ls
        → at ls v i * unvisited ls us i ≡ 0 = λ i l. omega (arith, sum_ge (length ls) i (λ i. at ls v i * unvisited ls us i) l) in
        omega (
          arith,
          weigh-off h x,
          sum-none (length ls),
          sum-eq (length ls) (λ i. at ls x i * (at ls v i * unvisited ls us i * h i)) (λ i. 0) (λ i l. rw (none i l) (omega arith)),
        )

    -- with one unvisited link at v, the sums at its other end go down by its share
    pub weigh-less : (j : ℕ) → j < length ls → at ls v j * unvisited ls us j ≡ 1 → ((i : ℕ) → i < length ls → i ≢ j → at ls v i * unvisited ls us i ≡ 0)
        → (h : ℕ → ℕ) (x : ℕ) → weigh ls us h x ≡ at ls x j * h j + weigh ls rest h x
    unfolding sum_at
    weigh-less j l e none h x =
        weigh-off h x ∙ ap (λ s. s + weigh ls rest h x)
        (sum-single (length ls) j (λ i. at ls x i * (at ls v i * unvisited ls us i * h i)) l (λ i k d. rw (none i k d) (omega arith)) ∙ rw e (omega arith))

-- the one unvisited link of v: its position is the sum of positions
pub record OneLink (ls : Links) (us : List ℕ) (v j : ℕ) : Type 0 where
  pub position : j < length ls
  pub here : at ls v j ≡ 1
  pub left : at ls v j * unvisited ls us j ≡ 1
  pub alone : (i : ℕ) → i < length ls → i ≢ j → at ls v i * unvisited ls us i ≡ 0

pub one_link : (ls : Links) (us : List ℕ) (v : ℕ) → sum_at ls v (unvisited ls us) ≡ 1 → OneLink ls us v (weigh ls us (λ i. i) v)
unfolding sum_at weigh
one_link ls us v e =
    let r = sum_only (length ls) (λ i. at ls v i * unvisited ls us i) e in
    let j = r.0 in
    let found : j ≡ sum (length ls) (λ i. at ls v i * (unvisited ls us i * i))
    = sym (sum-single (length ls) j (λ i. at ls v i * (unvisited ls us i * i)) r.1
    (λ i k d. omega (arith, ap (λ u. u * i) (r.3 i k d))) ∙ omega (arith, ap (λ u. u * j) r.2)) in
    let here : at ls v j ≡ 1 = same? (at ls v j) 0 (λ z. absurd (omega (arith, rw z at r.2))) (λ d. omega (arith, at-le ls v j)) in
    rw (← found) record { position = r.1; here = here; left = r.2; alone = r.3 }

-- the site at its other end
pub record OtherEnd (ls : Links) (us : List ℕ) (v j w : ℕ) : Type 0 where
  pub ends : one ls j + two ls j ≡ v + w
  pub other : w ≢ v
  pub untaken : count us w ≡ 1
  pub there : (x : ℕ) → x ≢ v → at ls x j ≡ is w x

positive : (a p q : ℕ) → a * (p * q) ≡ 1 → (1 ≤ p) × (1 ≤ q)
positive a p q e = (
  same? p 0 (λ z. absurd (omega (arith, rw z at e))) (λ d. omega arith),
  same? q 0 (λ z. absurd (omega (arith, rw z at e))) (λ d. omega arith),
)

pub other-end : (ls : Links) (us : List ℕ) (v j : ℕ) → OneLink ls us v j → ((x : ℕ) → count us x ≤ 1) → one ls j ≢ two ls j
    → OtherEnd ls us v j (one ls j + two ls j - v)
unfolding unvisited
other-end ls us v j o single apart =
    let a = one ls j in
    let b = two ls j in
    let both = positive (at ls v j) (count us a) (count us b) o.left in
    elim (at-end ls j o.here) [
      | inl e ↦ let w : a + b - v ≡ b = omega arith in record {
        ends = omega arith;
        other = λ z. apart (omega arith);
        untaken = rw w (omega (arith, both.1, single b));
        there = λ x d. rw w (same? b x
            (λ f. at_second ls j f ∙ sym (is_same f))
            (λ f. at_none ls j (λ z. d (sym z ∙ e)) f ∙ sym (is-other f)));
      }
      | inr e ↦ let w : a + b - v ≡ a = omega arith in record {
        ends = omega arith;
        other = λ z. apart (omega arith);
        untaken = rw w (omega (arith, both.0, single a));
        there = λ x d. rw w (same? a x
            (λ f. at_first ls j f ∙ sym (is_same f))
            (λ f. at_none ls j f (λ z. d (sym z ∙ e)) ∙ sym (is-other f)));
      }
    ]
