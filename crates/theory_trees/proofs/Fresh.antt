-- Trees built link by link: a list of links is a tree just if it joins all sites and each link joined two sites that were not joined before.
-- By counting; and the order of the links does not matter, since what is joined goes by the links one by one.
use Rattle.std.specs.Prelude.{◌≡◌, refl, ◌↔◌, ℕ, zero, suc, ◌+◌, ◌≤◌, ◌<◌, length, get_or}
use Rattle.std.proofs.Common.{sym, ap, ◌∙◌, arith}
use mathlib.Core.List.{[], ◌∷◌, reverse, reverse_aux, reverse-reverse}
use Rattle.std.proofs.lemmas.List.{length-reverse}
use Rattle.lists.specs.Numbers.{is, sum}
use Rattle.model.specs.Flows.{Links, Site, Ends, relabel, label, Tree}
use Rattle.lists.specs.Sums.{pick_cases, sum-eq}
use Rattle.theory_trees.specs.Labels.{linked, agree, reps, reps_ge, reps-whole, fewer, Fresh}
use Rattle.theory_trees.proofs.Labels.{fresh_links}

-- ---- fresh links and trees

-- links that each join two sites not joined before, and that join all n sites, make a tree
pub fresh_links_make_a_tree : (ls : Links) (n : ℕ) → 2 ≤ n → Ends ls n → Fresh ls → ((x : ℕ) → Site n x → label ls x ≡ label ls 1) → Tree ls n
fresh_links_make_a_tree ls n big ends fresh whole = record {
  big = big;
  ends = ends;
  links = omega (arith, fresh_links ls n (label ls 1) ends fresh whole (omega arith));
  whole = whole;
}

relabel-same : {p q : ℕ} → p ≡ q → (u : ℕ) → relabel p q u ≡ u
unfolding relabel
relabel-same {p} {q} e u = pick_cases (λ r. r ≡ u) u q p u (λ z. e ∙ sym z) (λ d. refl)

-- where the links are as few as the labels that are gone, each link is fresh
few_links_are_fresh : (ls : Links) (n : ℕ) → reps ls n + length ls ≤ n → Fresh ls
unfolding reps label
few_links_are_fresh [] n h = tt
few_links_are_fresh (a ∷ ls) n h =
    let p = label ls a.0 in
    let q = label ls a.1 in
    let kept : p ≡ q → sum n (λ i. is (relabel p q (label ls (suc i))) (suc i)) ≡ sum n (λ i. is (label ls (suc i)) (suc i))
    = λ e. sum-eq n (λ i. is (relabel p q (label ls (suc i))) (suc i)) (λ i. is (label ls (suc i)) (suc i))
    (λ i l. ap (λ u. is u (suc i)) (relabel-same e (label ls (suc i)))) in
    (λ e. omega (arith, kept e, reps_ge ls n), few_links_are_fresh ls n (omega (arith, fewer (label ls) p q n)))

-- and in a tree each link joins two sites that those behind it do not
pub tree_links_are_fresh : {ls : Links} {n : ℕ} → Tree ls n → Fresh ls
tree_links_are_fresh {ls} {n} T = few_links_are_fresh ls n (omega (arith, T.links, reps-whole ls n (label ls 1) T.whole))

-- ---- the order of the links

-- what holds of each link holds of each link in the other order
reverse-keeps : (P : ℕ × ℕ → Type 0) (ls rs : Links) → ((i : ℕ) → i < length ls → P (get_or ls i (0, 0)))
    → ((i : ℕ) → i < length rs → P (get_or rs i (0, 0)))
    → (i : ℕ) → i < length (reverse_aux ls rs) → P (get_or (reverse_aux ls rs) i (0, 0))
reverse-keeps P [] rs h k = k
reverse-keeps P (a ∷ ls) rs h k = reverse-keeps P ls (a ∷ rs) (λ i l. h (suc i) (omega arith)) next
  where
    next : (i : ℕ) → i < length (a ∷ rs) → P (get_or (a ∷ rs) i (0, 0))
    next zero l = h zero (omega arith)
    next (suc i) l = k i (omega arith)

module _ (ls : Links) where
  each_reversed : (P : ℕ × ℕ → Type 0) → ((i : ℕ) → i < length ls → P (get_or ls i (0, 0)))
      → (i : ℕ) → i < length (reverse ls) → P (get_or (reverse ls) i (0, 0))
  each_reversed P h = reverse-keeps P ls [] h (λ i l. absurd (omega arith))

  joined-before : (a b : ℕ) → label (reverse ls) a ≡ label (reverse ls) b → label ls a ≡ label ls b
  joined-before = agree (reverse ls) (label ls) (each_reversed (λ l. label ls l.0 ≡ label ls l.1) (linked ls))

-- the links in the other order join the same sites
pub joined_reversed : (ls : Links) (a b : ℕ) → (label (reverse ls) a ≡ label (reverse ls) b) ↔ (label ls a ≡ label ls b)
joined_reversed ls a b = (joined-before ls a b, λ e. joined-before (reverse ls) a b (rw (reverse-reverse ls) e))

-- and are a tree where they were one
pub tree_reversed : {ls : Links} {n : ℕ} → Tree ls n → Tree (reverse ls) n
tree_reversed {ls} {n} T = record {
  big = T.big;
  ends = each_reversed ls (λ l. Site n l.0 × Site n l.1) T.ends;
  links = omega (arith, T.links, length-reverse ls);
  whole = λ x p. (joined_reversed ls x 1).1 (T.whole x p);
}
