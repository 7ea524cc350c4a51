-- The elimination order of a tree: it takes every site once, each over at most one unvisited link, and always the lowest that can be taken.
use Rattle.std.specs.Prelude.{◌≡◌, refl, length}
use Rattle.std.proofs.Math.Path.{ap₂, fun_ext}
use Rattle.std.proofs.Common.{◌∙◌}
use mathlib.Core.List.{List, [], ◌∷◌}
use Prim.Native.Nat.{ℕ, zero, suc, ◌+◌, ◌*◌, ◌≤◌}
use native.Mathlib.Omega.{arith}
use Rattle.lists.specs.Numbers.{is, count}
use Rattle.model.specs.Flows.{Links, Site, Tree, sites, one, two, at}
use Rattle.model.specs.Trimming.{unvisited, first, remove, taken, elimination, Inward, InwardOrder}
use Rattle.lists.specs.Sums.{is_same}
use Rattle.lists.specs.Places.{length-upfrom}
use Rattle.theory_trees.specs.Sites.{sites_once, sites-site, sites-single}
use Rattle.theory_trees.specs.Orders.{Ascending, Lowest, first-lowest, never_stuck, remove-count, remove-length, remove_ascending, upfrom_ascending}

module _ {ls : Links} {n : ℕ} (T : Tree ls n) where
  -- the sites of us are taken as often as they stand there, each over at most one unvisited link and the lowest first
  record Takes (us order : List ℕ) : Type 0 where
    every : (x : ℕ) → count order x ≡ count us x
    inward : Inward ls order
    lowest : Lowest ls order

  takes : (k : ℕ) (us : List ℕ) → length us ≡ k → ((x : ℕ) → 1 ≤ count us x → Site n x) → ((x : ℕ) → count us x ≤ 1) → Ascending us
      → Takes us (taken ls k us)
  unfolding taken count unvisited
  takes zero [] e here single up = record { every = λ x. refl; inward = tt; lowest = tt }
  takes zero (u ∷ us) e here single up = absurd (omega arith)
  takes (suc k) [] e here single up = absurd (omega arith)
  takes (suc k) (u ∷ us) e here single up =
      let all : List ℕ = u ∷ us in
      let v = first ls all all in
      let f = never_stuck T all here single u (omega (arith, is_same {u = u} refl)) in
      let rest = remove v all in
      let was : (x : ℕ) → count all x ≡ is v x + count rest x = λ x. remove-count all v x f.0 in
      let ih = takes k rest (omega (arith, remove-length all v f.0))
      (λ x p. here x (omega (arith, was x))) (λ x. omega (arith, was x, single x)) (remove_ascending all v up) in
      let every : (x : ℕ) → count (v ∷ taken ls k rest) x ≡ count all x = λ x. omega (arith, ih.every x, was x) in
      let same : unvisited ls (v ∷ taken ls k rest) ≡ unvisited ls all = fun_ext (λ i. ap₂ ◌*◌ (every (one ls i)) (every (two ls i))) in
      record {
        every = every;
        inward = (omega (arith, ih.every v, was v, single v, is_same {u = v} refl), rw same f.1, ih.inward);
        lowest = (λ x p h. first-lowest ls all all up x (omega (arith, every x)) (rw same at h), ih.lowest);
      }

  elimination_takes : Takes (sites n) (elimination ls n)
  unfolding elimination
  elimination_takes = takes n (sites n) (length-upfrom 1 n) (sites-site n) (sites-single n) (upfrom_ascending 1 n)

  -- the elimination order takes the sites and nothing else
  pub elimination_takes_only_sites : (x : ℕ) → count (elimination ls n) x ≡ count (sites n) x
  elimination_takes_only_sites = elimination_takes.every

  -- it takes every site once
  pub elimination_takes_every_site_once : (x : ℕ) → Site n x → count (elimination ls n) x ≡ 1
  elimination_takes_every_site_once x p = elimination_takes.every x ∙ sites_once n x p

  -- each over at most one unvisited link
  pub elimination_is_inward : InwardOrder ls n (elimination ls n)
  elimination_is_inward = record { inward = elimination_takes.inward; all = λ x p. omega (arith, elimination_takes_every_site_once x p) }

  -- always the lowest that can be taken
  pub elimination_takes_the_lowest : Lowest ls (elimination ls n)
  elimination_takes_the_lowest = elimination_takes.lowest
