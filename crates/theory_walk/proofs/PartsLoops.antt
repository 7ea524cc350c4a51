-- What loops over the sites and over the links rely on: the pairs grow at the end, and never are there more of them than links.
use Rattle.std.specs.Prelude.{length}
use mathlib.Core.List.{List, ◌++◌, flat_map}
use Prim.Native.Nat.{ℕ, zero, suc, ◌+◌, ◌≤◌}
use Rattle.std.proofs.Math.ListN.{length-append}
use native.Mathlib.Omega.{arith}
use Rattle.lists.specs.Numbers.{upfrom}
use Rattle.model.specs.Flows.{Links, sites, Tree}
use Rattle.model.specs.Trimming.{Balanced}
use Rattle.model.specs.Parts.{pairs_of_part, pair_of_link, pairs_of_parts}
use Rattle.model.specs.declared.Pair.{Pair}
use Rattle.theory_walk.specs.PartsTheorem.{pairs_of_parts_are_sound}

module _ (f : ℕ → List Pair) where
  flat_grows : (b m n : ℕ) → m ≤ n → length (flat_map f (upfrom b m)) ≤ length (flat_map f (upfrom b n))
  unfolding flat_map upfrom
  flat_grows b zero n l = omega arith
  flat_grows b (suc m) zero l = absurd (omega arith)
  flat_grows b (suc m) (suc n) l = omega (
    arith,
    length-append (f b) (flat_map f (upfrom (suc b) m)),
    length-append (f b) (flat_map f (upfrom (suc b) n)),
    flat_grows (suc b) m n (omega arith),
  )

module _ {ls : Links} {n : ℕ} (T : Tree ls n) (terminal t : ℕ → ℕ) (B : Balanced ls terminal t) where
  abbrev of_parts : ℕ → List Pair
  of_parts = pairs_of_part ls n t terminal

  abbrev of_links : ℕ → List Pair
  of_links = pair_of_link ls n t terminal

  -- after m sites, and after all sites and m links
  pub few_after_sites : (m : ℕ) → m ≤ n → length (flat_map of_parts (upfrom 1 m)) ≤ length ls
  unfolding pairs_of_parts
  few_after_sites m l = omega (
    arith,
    flat_grows of_parts 1 m n l,
    (pairs_of_parts_are_sound T terminal t B).few,
    length-append (flat_map of_parts (sites n)) (flat_map of_links (upfrom 0 (length ls))),
  )

  pub few_after_links : (m : ℕ) → m ≤ length ls → length (flat_map of_parts (sites n) ++ flat_map of_links (upfrom 0 m)) ≤ length ls
  unfolding pairs_of_parts
  few_after_links m l = omega (
    arith,
    flat_grows of_links 0 m (length ls) l,
    (pairs_of_parts_are_sound T terminal t B).few,
    length-append (flat_map of_parts (sites n)) (flat_map of_links (upfrom 0 (length ls))),
    length-append (flat_map of_parts (sites n)) (flat_map of_links (upfrom 0 m)),
  )
