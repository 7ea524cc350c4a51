-- Labels are what they should be: equal just for sites joined by links; and each link costs at most one label.
use Rattle.std.specs.Prelude.{◌≡◌, refl, ◌≢◌, ◌↔◌, [], ◌∷◌, ℕ, zero, suc, ◌+◌, ◌-◌, ◌≤◌, length}
use Rattle.std.proofs.Common.{sym, ap, ◌∙◌, arith}
use mathlib.Core.Logic.Iff
use Rattle.lists.specs.Numbers.{pick, is, sum}
use Rattle.model.specs.Flows.{Links, Site, Ends, relabel, label, joined, Joined}
use Rattle.lists.specs.Sums.{pick_same, pick_cases, is_same, is-other, is_one, is_iff, sum_one, sum-eq}
use Rattle.lists.specs.Sums.{sum_eq_but, sum_ge}
use Rattle.theory_trees.specs.Labels.{Fresh, along, joined-label, label-joined, linked, reps, reps-whole}

-- a label is its own label
pub label-label : (ls : Links) (x : ℕ) → label ls (label ls x) ≡ label ls x
label-label ls x = (along ls (λ y. label ls y ≡ label ls x) (λ i l. rw (linked ls i l) Iff.rfl) x).1 refl

-- labels tell what is joined, in the words of the closure
pub joined_iff : (ls : Links) (a b : ℕ) → (joined ls a b ≡ 1) ↔ Joined ls a b
unfolding joined
joined_iff ls a b = (λ e. label-joined ls a b (is_one e), λ j. is_same (joined-label ls j))

-- relabelling q, one of them, takes away just one
fewer_one : (f : ℕ → ℕ) (p q n : ℕ) → f p ≡ p → f q ≡ q → Site n q → p ≢ q
    → sum n (λ i. is (f (suc i)) (suc i)) ≡ suc (sum n (λ i. is (relabel p q (f (suc i))) (suc i)))
unfolding relabel
fewer_one f p zero n fp fq b d = omega arith
fewer_one f p (suc q) n fp fq b d =
    let was : is (f (suc q)) (suc q) ≡ 1 = is_same fq in
    let now : is (pick (f (suc q)) (suc q) p (f (suc q))) (suc q) ≡ 0 = rw (pick_same fq) (is-other d) in
    omega (
      arith,
      sum_eq_but n q (λ i. is (f (suc i)) (suc i)) (λ i. is (relabel p (suc q) (f (suc i))) (suc i)) b.1
          (λ i l e. pick_cases (λ r. is (f (suc i)) (suc i) ≡ is r (suc i)) (f (suc i)) (suc q) p (f (suc i))
          (λ g. is_iff (f (suc i)) (suc i) p (suc i) (λ z. absurd (e (omega arith))) (λ z. absurd (d (sym fp ∙ ap f z ∙ g))))
          (λ g. refl)),
    )

-- the label of a site is a site
pub label-site : (ls : Links) (n : ℕ) → Ends ls n → (x : ℕ) → Site n x → Site n (label ls x)
label-site ls n h x = (along ls (Site n) (λ i l. (λ _. (h i l).1, λ _. (h i l).0)) x).1

-- a link that joins two sites not joined before takes away exactly one
pub reps-eq : (ls : Links) (n : ℕ) → Ends ls n → Fresh ls → n ≡ reps ls n + length ls
unfolding reps label
reps-eq [] n h f = omega (arith, sum_one n, sum-eq n (λ i. 1) (λ i. is (suc i) (suc i)) (λ i l. sym (is_same refl)))
reps-eq (a ∷ ls) n h f =
    let rest : Ends ls n = λ i l. h (suc i) (omega arith) in
    omega (
      arith,
      reps-eq ls n rest f.1,
      fewer_one (label ls) (label ls a.0) (label ls a.1) n
          (label-label ls a.0) (label-label ls a.1) (label-site ls n rest a.1 (h zero (omega arith)).1) f.0,
    )

-- so links of which each joined two sites not joined before, and that join all n sites, are n - 1
pub fresh_links : (ls : Links) (n r : ℕ) → Ends ls n → Fresh ls → ((x : ℕ) → Site n x → label ls x ≡ r) → 1 ≤ n → n ≡ 1 + length ls
unfolding reps
fresh_links ls n r h f w p = own (label ls 1) (label-label ls 1) (label-site ls n h 1 (omega arith, p))
  where
    own : (u : ℕ) → label ls u ≡ u → Site n u → n ≡ 1 + length ls
    own zero e b = omega arith
    own (suc u) e b = omega (arith, reps-eq ls n h f, reps-whole ls n r w, is_same e, sum_ge n u (λ i. is (label ls (suc i)) (suc i)) b.1)
