-- Leaves as terminals: no leaf stands between two others, so any two leaves make a route; and a tree of leaves alone has two sites.
use Rattle.std.specs.Prelude.{◌≡◌, ◌≢◌, ℕ, ◌+◌, ◌*◌, ◌<◌, length}
use Rattle.std.proofs.Common.{sym}
use native.Mathlib.Omega.{arith}
use Rattle.lists.specs.Numbers.{sum, over}
use Rattle.model.specs.Flows.{Links, Site, Tree, Route, sites, at, sum_at, leaf, separates}
use Rattle.model.specs.declared.Pair.{Pair}
use Rattle.lists.specs.Sums.{is_one, same?, sum_one, sum-eq, sum-mul, sum-two}
use Rattle.theory_trees.specs.Trees.{separates_triple, local_one}
use Rattle.lists.specs.Places.{length-upfrom, over-one, over-eq}
use Rattle.theory_trees.specs.Sites.{sites-site, by_link}
use Rattle.theory_trees.specs.Leaves.{Outer}

-- a leaf has one link
pub leaf_has_one_link : (ls : Links) (w i j : ℕ) → leaf ls w ≡ 1 → i < length ls → j < length ls → at ls w i ≡ 1 → at ls w j ≡ 1 → i ≡ j
unfolding leaf sum_at
leaf_has_one_link ls w i j f l k a b = same? i j
    (λ e. e)
    (λ d. absurd (omega (arith, is_one f, rw (a, b) at (sum-two (length ls) i j (λ y. at ls w y * 1) l k d))))

module _ {ls : Links} {n : ℕ} (T : Tree ls n) where
  -- it separates the leaf from every other site
  leaf-separates : (w x j : ℕ) → Site n w → Site n x → x ≢ w → leaf ls w ≡ 1 → j < length ls → at ls w j ≡ 1 → separates ls j w x ≡ 1
  leaf-separates w x j p q d f l a =
      let r = local_one T w x p q d in
      rw (leaf_has_one_link ls w r.0 j f r.1 l r.2 a) at r.3

  -- where every terminal is a leaf, an entry between two different terminals is a route
  pub outer_route : (terminal : ℕ → ℕ) → Outer ls n terminal → (e : Pair) → Site n e.first → Site n e.second
      → terminal e.first ≡ 1 → terminal e.second ≡ 1 → e.first ≢ e.second → Route ls n terminal e
  outer_route terminal O e p q f g d = record {
    first-site = p;
    second-site = q;
    first-terminal = f;
    second-terminal = g;
    different = d;
    free = λ w j s m wa wb l a. omega (
      arith,
      leaf-separates w e.first j s p (λ z. wa (sym z)) (O w s m) l a,
      leaf-separates w e.second j s q (λ z. wb (sym z)) (O w s m) l a,
      separates_triple T j w e.first e.second l s p q,
    );
  }

  -- ---- counting links at sites

  -- the sums at the sites count every link twice
  pub sums_at_sites_count_links_twice : (g : ℕ → ℕ) → over (sites n) (λ x. sum_at ls x g) ≡ 2 * sum (length ls) g
  sums_at_sites_count_links_twice g = omega (
    arith,
    over-eq (sites n) (λ x. sum_at ls x g) (λ x. 1 * sum_at ls x g) (λ x q. omega arith),
    by_link T (λ x. 1) (λ x i. g i),
    sum-eq (length ls) (λ i. 1 * g i + 1 * g i) (λ i. 2 * g i) (λ i l. omega arith),
    sum-mul (length ls) 2 g,
  )

  -- so the degrees sum to twice the links
  pub degrees_sum_to_twice_the_links : over (sites n) (λ x. sum_at ls x (λ i. 1)) ≡ 2 * length ls
  degrees_sum_to_twice_the_links = omega (arith, sums_at_sites_count_links_twice (λ i. 1), sum_one (length ls))

  -- a tree in which every site is a leaf has two sites
  pub a_tree_of_leaves_has_two_sites : ((x : ℕ) → Site n x → leaf ls x ≡ 1) → n ≡ 2
  unfolding leaf
  a_tree_of_leaves_has_two_sites h = omega (
    arith,
    T.links,
    degrees_sum_to_twice_the_links,
    over-eq (sites n) (λ x. sum_at ls x (λ i. 1)) (λ x. 1) (λ x q. is_one (h x (sites-site n x q))),
    over-one (sites n),
    length-upfrom 1 n,
  )
