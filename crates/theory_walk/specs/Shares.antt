-- Lists of pairs that cover a share of the links: put together they cover the shares added up, and what covers every link once is sound.
-- That no pair arises in two parts costs nothing: a pair that arises loads a link that separates it.
use Rattle.std.specs.Prelude.{◌≡◌, refl, ℕ, ◌+◌, ◌*◌, ◌≤◌, ◌<◌, length}
use Rattle.std.proofs.Common.{sym, ◌∙◌, inl, inr, length-append}
use mathlib.Core.List.{List, [], ◌∷◌, ◌++◌, flat_map}
use native.Mathlib.Omega.{arith}
use Rattle.lists.specs.Numbers.{sum, over, count, Each}
use Rattle.lists.specs.Sums.{same?, is_same, sum-add, sum_one, sum-eq}
use Rattle.lists.specs.Tallies.{tally, tally-append, tally-some, each_append}
use Rattle.model.specs.Flows.{Links, separates, Tree, Route, Multiflow, load}
use Rattle.model.specs.Pairing.{joins}
use Rattle.model.specs.declared.Pair.{Pair}
use Rattle.theory_trees.specs.Trees.{separates_comm, local_one}
use Rattle.theory_walk.specs.Sound.{arises, Sound}
use Rattle.theory_walk.specs.Subtrees.{Joins}
use Rattle.theory_walk.specs.Children.{joins-ends, joins-one}
use Rattle.theory_walk.specs.Walk.{load-flow}
use Rattle.theory_walk.specs.Totals.{sound}

-- a link separates the sites of a pair in either order
joins-separates : (ls : Links) (j : ℕ) (e : Pair) (x y : ℕ) → joins (e.first, e.second) x y ≡ 1 → separates ls j e.first e.second ≡ separates ls j x y
joins-separates ls j e x y o = go (joins-ends (e.first, e.second) x y o)
  where
    go : Joins (e.first, e.second) x y → separates ls j e.first e.second ≡ separates ls j x y
    go (inl q) = rw (q.0, q.1)
    go (inr q) = rw (q.0, q.1) (separates_comm ls j y x)

module _ {ls : Links} {n : ℕ} (T : Tree ls n) (terminal t : ℕ → ℕ) where
  -- the pairs es cover the share s of the links: s is 1 on the links that they load in full, 0 on those that they leave alone
  pub record Covers (s : ℕ → ℕ) (es : List Pair) : Type 0 where
    pub loads : (j : ℕ) → j < length ls → load ls es j ≡ s j * (2 * t j)
    pub routes : Multiflow ls n terminal es
    pub positive : Each (λ e. 1 ≤ e.amount) es
    pub once : (j x y : ℕ) → j < length ls → separates ls j x y ≡ 1 → arises es x y ≤ s j
    pub few : length es ≤ sum (length ls) s

  pub covers_same : (s r : ℕ → ℕ) (es : List Pair) → ((j : ℕ) → j < length ls → s j ≡ r j) → Covers s es → Covers r es
  covers_same s r es h f = record {
    loads = λ j l. rw (h j l) at (f.loads j l);
    routes = f.routes;
    positive = f.positive;
    once = λ j x y l c. rw (h j l) at (f.once j x y l c);
    few = omega (arith, f.few, sum-eq (length ls) s r h);
  }

  pub covers_none : (s : ℕ → ℕ) → ((j : ℕ) → j < length ls → s j ≡ 0) → Covers s []
  unfolding load tally
  covers_none s h = record {
    loads = λ j l. rw (h j l) (omega arith);
    routes = tt;
    positive = tt;
    once = λ j x y l c. omega arith;
    few = omega arith;
  }

  load-append : (a b : List Pair) (j : ℕ) → load ls (a ++ b) j ≡ load ls a j + load ls b j
  load-append a b j = omega (
    arith,
    load-flow ls (a ++ b) j,
    load-flow ls a j,
    load-flow ls b j,
    tally-append (λ e. e.amount * separates ls j e.first e.second) a b,
  )

  pub covers_both : (s r : ℕ → ℕ) (a b : List Pair) → Covers s a → Covers r b → Covers (λ j. s j + r j) (a ++ b)
  covers_both s r a b f g = record {
    loads = λ j l. omega (arith, load-append a b j, f.loads j l, g.loads j l);
    routes = each_append (Route ls n terminal) a b f.routes g.routes;
    positive = each_append (λ e. 1 ≤ e.amount) a b f.positive g.positive;
    once = λ j x y l c. omega (arith, tally-append (λ e. joins (e.first, e.second) x y) a b, f.once j x y l c, g.once j x y l c);
    few = omega (arith, length-append a b, sum-add (length ls) s r, f.few, g.few);
  }

  pub covers_each : (us : List ℕ) (s : ℕ → ℕ → ℕ) (f : ℕ → List Pair) → ((u : ℕ) → 1 ≤ count us u → Covers (s u) (f u))
      → Covers (λ j. over us (λ u. s u j)) (flat_map f us)
  unfolding flat_map over count
  covers_each [] s f h = covers_none (λ j. 0) (λ j l. refl)
  covers_each (u ∷ us) s f h = covers_both (s u) (λ j. over us (λ u. s u j)) (f u) (flat_map f us)
      (h u (omega (arith, is_same {u = u} refl))) (covers_each us s f (λ x p. h x (omega arith)))

  -- what covers every link once is sound
  pub covers_sound : (s : ℕ → ℕ) (es : List Pair) → ((j : ℕ) → j < length ls → s j ≡ 1) → Covers s es → Sound ls n terminal t es
  covers_sound s es h f = sound T terminal t es
      (λ j l. f.loads j l ∙ rw (h j l) (omega arith))
      f.routes f.positive
      (λ x y. elim (tally-some (Route ls n terminal) (λ e. joins (e.first, e.second) x y) es f.routes) [
        | inl z ↦ omega (arith, z)
        | inr m ↦
            let e = m.0 in
            let r = local_one T e.first e.second m.1.first-site m.1.second-site (λ z. m.1.different (sym z)) in
            let i = r.0 in
            let c : separates ls i x y ≡ 1 = sym (joins-separates ls i e x y (omega (arith, joins-one (e.first, e.second) x y, m.2))) ∙ r.3 in
            omega (arith, f.once i x y r.1 c, h i r.1)
      ])
      (omega (arith, f.few, sum-eq (length ls) s (λ j. 1) h, sum_one (length ls)))

  -- ---- how often a pair arises, by the load of a link that separates its sites

  pub arises-load : (j x y : ℕ) → separates ls j x y ≡ 1 → (es : List Pair) → Each (λ e. 1 ≤ e.amount) es → arises es x y ≤ load ls es j
  unfolding load tally
  arises-load j x y c [] p = omega arith
  arises-load j x y c (e ∷ es) p = omega (arith, arises-load j x y c es p.1, this)
    where
      this : joins (e.first, e.second) x y ≤ e.amount * separates ls j e.first e.second
      this = same? (joins (e.first, e.second) x y) 1
          (λ o. rw (o, joins-separates ls j e x y o ∙ c) (omega (arith, p.0)))
          (λ o. omega (arith, joins-one (e.first, e.second) x y))
