-- What the walk over a path tells of the ends on it: its links lie between sites up to SITES, and another end at one of them is one on the path.
use mathlib.Core.Bool.{true, false, not}
use mathlib.Core.Path.{◌≡◌, refl}
use mathlib.Core.Logic.{◌≢◌}
use mathlib.Core.List.{List}
use Prim.Native.Nat.{ℕ, ◌+◌, ◌≤◌, ◌<◌}
use native.Mathlib.Omega.{arith}
use borrow.Author.Tests.{eq-eqb, ne_eqb}
use lib.Dec.{eqb}
use lib.ListN.{length}
use Rattle.model.specs.Limits.{SITES}
use Rattle.lists.specs.Numbers.{look}
use Rattle.lists.specs.Sums.{same?}
use Rattle.model.specs.Flows.{Site, one, two}
use Rattle.model.specs.Parts.{another, crossed}
use Rattle.theory_trees.specs.FreePairs.{crossed-at, crossed-none}
use Rattle.tree.specs.Offer.{links}
use Rattle.tree.specs.Links.{length-links, links-one, links-two}
use Rattle.tree_sets.specs.Members.{member}
use Rattle.tree_sets.specs.declared.Set.{Set}
use Rattle.log_paths.specs.Tables.{Mapped, PathBy}
use Rattle.log_paths.specs.Laws.{a_path_has_links_only}

-- how many of the two sites of link j are ends other than a and b
abbrev pub others : List ℕ → List ℕ → List ℕ → ℕ → ℕ → ℕ → ℕ
others e f ends a b j = another (look ends) a b (look e j) + another (look ends) a b (look f j)

-- link j of the lists lies between two sites that have places
pub record Placed (e f : List ℕ) (j : ℕ) : Type 0 where
  pub low : j < SITES
  pub first : j < length e
  pub second : j < length f
  pub first-site : look e j ≤ SITES
  pub second-site : look f j ≤ SITES

module _ {n a b : ℕ} {e f rows : List ℕ} (m : Mapped n e f rows) (p : Site n a) (q : Site n b) where
  pub sites-low : (a ≤ SITES) × (b ≤ SITES)
  sites-low = let t = m.tree in (omega arith, omega arith)

  module _ (path : Set) (by : PathBy rows a b path) where
    pub placed : (j : ℕ) → member path j ≡ 1 → Placed e f j
    placed j o =
        let t = m.tree in
        let l = a_path_has_links_only t.tree path m.table p q by j o in
        let all = length-links e f (omega arith) in
        let s = t.tree.ends j l in
        let first : j < length e = omega arith in
        let second : j < length f = omega arith in
        record {
          low = omega arith;
          first = first;
          second = second;
          first-site = omega (arith, s.0, links-one e f j first second);
          second-site = omega (arith, s.1, links-two e f j first second);
        }

    module _ (ends : List ℕ) where
      same-others : (j : ℕ) → j < length (links e f)
          → another (look ends) a b (one (links e f) j) + another (look ends) a b (two (links e f) j) ≡ others e f ends a b j
      same-others j l =
          let t = m.tree in
          let all = length-links e f (omega arith) in
          rw (links-one e f j (omega arith) (omega arith), links-two e f j (omega arith) (omega arith)) refl

      -- another end was found, or none
      pub met : (j : ℕ) → member path j ≡ 1 → others e f ends a b j ≢ 0 → true ≡ not (eqb (crossed (links e f) (look ends) a b) 0)
      met j o d =
          let l = a_path_has_links_only m.tree.tree path m.table p q by j o in
          let on = by (links e f) n m.tree.tree m.table p q j in
          rw (ne_eqb (crossed (links e f) (look ends) a b) 0
          (crossed-at (links e f) (look ends) a b j l (omega arith) (λ z. d (omega (arith, same-others j l, z)))))

      pub met-none : ((j : ℕ) → j < SITES → member path j ≡ 1 → others e f ends a b j ≢ 0 → ⊥)
          → false ≡ not (eqb (crossed (links e f) (look ends) a b) 0)
      met-none never = rw (eq-eqb (crossed (links e f) (look ends) a b) 0 (crossed-none (links e f) (look ends) a b (λ j l s.
          let on : member path j ≡ 1 = omega (arith, by (links e f) n m.tree.tree m.table p q j) in
          same? (others e f ends a b j) 0
          (λ z. omega (arith, same-others j l, z))
          (λ d. absurd (never j (placed j on).low on d)))))
