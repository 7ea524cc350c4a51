-- What the pairs of one part cover: those of a single link that link, those of the walk from an inner site the links of its part.
-- By the walk (Walk) on the links of the part, which are open from the root (Regions), and since it reaches no other (Near).
use Rattle.std.specs.Prelude.{◌≡◌, refl, ◌≢◌, length}
use Rattle.std.proofs.Common.{sym, ◌∙◌}
use Rattle.std.proofs.Math.Path.{ap}
use Rattle.std.proofs.Math.Logic.{inl, inr}
use mathlib.Core.List.{List, []}
use Prim.Native.Nat.{ℕ, zero, suc, ◌*◌, ◌≤◌, ◌<◌}
use native.Mathlib.Omega.{arith}
use Rattle.lists.specs.Numbers.{is, Each}
use Rattle.lists.specs.Sums.{pick_cases, same?, is_same, is-other, sum_ge}
use Rattle.lists.specs.Tallies.{tally}
use Rattle.model.specs.Flows.{Links, Site, one, two, Tree, Multiflow, load}
use Rattle.model.specs.Trimming.{Balanced}
use Rattle.model.specs.Pairing.{put, give, pairs_from}
use Rattle.model.specs.Parts.{single, region, home, in_part, root, pairs_of_part, pair_of_link}
use Rattle.model.specs.declared.Pair.{Pair}
use Rattle.theory_trees.specs.Trees.{side-link, separates-same, at_first, at_second, at-end, loopless}
use Rattle.theory_walk.specs.Sound.{arises}
use Rattle.theory_walk.specs.Subtrees.{separates-ends}
use Rattle.theory_walk.specs.Children.{joins-one}
use Rattle.theory_walk.specs.Walk.{root_loads, root_routes, root_positive, root_once}
use Rattle.theory_walk.specs.Regions.{member-le, single-le, single-terminal, root-le, root_inner, part_open}
use Rattle.theory_walk.specs.Near.{root-far, root_few}
use Rattle.theory_walk.specs.Shares.{Covers, covers_same, covers_none, arises-load}

module _ {ls : Links} {n : ℕ} (T : Tree ls n) (terminal t : ℕ → ℕ) where
  -- ---- a link between two terminals

  module _ (k : ℕ) (lk : k < length ls) (e : single ls terminal k ≡ 1) where
    abbrev along : ℕ → List Pair
    along a = give (one ls k) (put (two ls k) a [])

    along-load : (a j : ℕ) → j < length ls → load ls (along a) j ≡ is k j * a
    unfolding give put load
    along-load zero j l = omega arith
    along-load (suc a) j l = same? k j
        (λ o. rw (is_same o, ← o, separates-ends T k lk) (omega arith))
        (λ o. rw (is-other o, separates-same ls j (one ls k) (two ls k) (side-link ls k j lk o)) (omega arith))

    along-routes : (a : ℕ) → Multiflow ls n terminal (along a)
    unfolding give put
    along-routes zero = tt
    along-routes (suc a) = (
      record {
        first-site = (T.ends k lk).0;
        second-site = (T.ends k lk).1;
        first-terminal = single-terminal ls terminal k (one ls k) e (at_first ls k refl);
        second-terminal = single-terminal ls terminal k (two ls k) e (at_second ls k refl);
        different = loopless T k lk;
        free = λ w j p tw d g l a. separates-same ls j (one ls k) (two ls k)
            (side-link ls k j lk (λ o. elim (at-end ls j a) [ inl x ↦ d (sym x ∙ ap (one ls) (sym o)) | inr x ↦ g (sym x ∙ ap (two ls) (sym o)) ]));
      },
      tt,
    )

    along-positive : (a : ℕ) → Each (λ e. 1 ≤ e.amount) (along a)
    unfolding give put
    along-positive zero = tt
    along-positive (suc a) = (omega arith, tt)

    along-few : (a : ℕ) → length (along a) ≤ 1
    unfolding give put
    along-few zero = omega arith
    along-few (suc a) = omega arith

    along_once : (x y a : ℕ) → arises (along a) x y ≤ 1
    unfolding give put tally
    along_once x y zero = omega arith
    along_once x y (suc a) = omega (arith, joins-one (one ls k, two ls k) x y)

    along-covers : Covers T terminal t (λ j. is k j) (along (2 * t k))
    along-covers = record {
      loads = λ j l. along-load (2 * t k) j l ∙ same? k j (λ o. rw o) (λ o. rw (is-other o) (omega arith));
      routes = along-routes (2 * t k);
      positive = along-positive (2 * t k);
      once = λ j x y l c. same? k j
          (λ o. omega (arith, is_same o, along_once x y (2 * t k)))
          (λ o. omega (arith, arises-load T terminal t j x y c (along (2 * t k)) (along-positive (2 * t k)), rw (is-other o) at (along-load (2 * t k) j l)));
      few = omega (arith, along-few (2 * t k), is_same {u = k} refl, sum_ge (length ls) k (λ j. is k j) lk);
    }

  pub link_covers : (k : ℕ) → k < length ls → Covers T terminal t (λ j. is k j * single ls terminal k) (pair_of_link ls n t terminal k)
  unfolding pair_of_link
  link_covers k l =
      let s : ℕ → ℕ = λ j. is k j * single ls terminal k in
      let es = give (one ls k) (put (two ls k) (2 * t k) []) in
      pick_cases (Covers T terminal t s) (single ls terminal k) 1 es []
      (λ e. covers_same T terminal t (λ j. is k j) s es (λ j m. rw e (omega arith)) (along-covers k l e))
      (λ d. covers_none T terminal t s
      (λ j m. let z : single ls terminal k ≡ 0 = omega (arith, single-le ls terminal k) in rw z (omega arith)))

  -- ---- a part with a root

  module _ (B : Balanced ls terminal t) where
    walk-covers : (v : ℕ) → Site n v → terminal v ≢ 1 → Covers T terminal t (λ j. in_part ls terminal (region ls terminal v) j) (pairs_from ls n t terminal v)
    walk-covers v pv d = record {
      loads = λ j l. same? (in_part ls terminal (region ls terminal v) j) 1
          (λ e. rw e (omega (arith, root_loads T t terminal B v pv d j l (part_open T terminal v j l e))))
          (λ e. rw (none j e) (omega (arith, root-far T t terminal v j l e)));
      routes = root_routes T t terminal B v pv d;
      positive = root_positive T t terminal B v pv d;
      once = λ j x y l c. same? (in_part ls terminal (region ls terminal v) j) 1
          (λ e. rw e (root_once T t terminal B v pv d x y))
          (λ e. omega (
            arith,
            root-far T t terminal v j l e,
            arises-load T terminal t j x y c (pairs_from ls n t terminal v) (root_positive T t terminal B v pv d),
          ));
      few = root_few T t terminal v B pv d;
    }
      where
        none : (j : ℕ) → in_part ls terminal (region ls terminal v) j ≢ 1 → in_part ls terminal (region ls terminal v) j ≡ 0
        none j e = omega (arith, member-le ls terminal (region ls terminal v) (home ls terminal j))

    pub root_covers : (v : ℕ) → Site n v
        → Covers T terminal t (λ j. root ls terminal n v * in_part ls terminal (region ls terminal v) j) (pairs_of_part ls n t terminal v)
    unfolding pairs_of_part
    root_covers v pv =
        let s : ℕ → ℕ = λ j. root ls terminal n v * in_part ls terminal (region ls terminal v) j in
        pick_cases (Covers T terminal t s) (root ls terminal n v) 1 (pairs_from ls n t terminal v) []
        (λ e. covers_same T terminal t (λ j. in_part ls terminal (region ls terminal v) j) s (pairs_from ls n t terminal v)
        (λ j l. rw e (omega arith)) (walk-covers v pv (root_inner ls terminal n v e)))
        (λ d. covers_none T terminal t s (λ j l. let z : root ls terminal n v ≡ 0 = omega (arith, root-le ls terminal n v) in rw z (omega arith)))
