-- The sets and the pieces along the order are those told by links: set sizes, the links that leave a piece, and the count of odd pieces.
-- By one sum over parent links that is a sum over links, and by two ways to choose a site of each piece: its first, seen from the root, and the one that tells
-- it.
use Rattle.std.specs.Prelude.{List}
use Rattle.std.proofs.Common.{inl, inr, arith}
use Prim.Native.Nat.{ℕ}
use Rattle.model.specs.Flows.{Links}
use Rattle.model.specs.Whole.{EndSets}
use Rattle.model.specs.WholeLoads.{upward, parent_of}
use Rattle.theory_whole.specs.Rooted.{Rooted}
use Rattle.theory_whole.specs.Order.{Plain, place, rooted}
use Rattle.theory_whole.specs.Solution.{Solution, solution_own, solution_owner}
use Rattle.theory_whole.specs.Plans.{Network, plain, in_site, site_in_lem}

module _ {ls : Links} {n : ℕ} {terminal : ℕ → ℕ} {order : List ℕ} (N : Network ls n terminal order) (cap : ℕ → ℕ)
    (X : Solution order (parent_of ls order) (λ v. upward ls order v cap) terminal) where
  abbrev pub up : ℕ → ℕ
  up v = upward ls order v cap

  abbrev pub par : ℕ → ℕ
  par v = parent_of ls order v

  abbrev pub owner : ℕ → ℕ
  owner v = X.owner v

  -- ---- the first site of each piece

  abbrev pub H : Plain order par up terminal
  H = plain N cap

  pub R : Rooted order par (place order)
  R = rooted (parent_of ls order) order H.taken

  -- ---- what is asked of the sets

  -- each terminal is in its own set, and every set is a terminal's
  pub sets_are_end_sets : EndSets n terminal owner
  sets_are_end_sets = record {
    own = λ t s m. solution_own R X t (omega (arith, site_in_lem N t s)) m;
    owned = λ v s. elim (solution_owner R X v (omega (arith, site_in_lem N v s))) [
      | inl e ↦ inl e
      | inr r ↦ inr (in_site N (owner v) r.0, r.1)
    ];
  }
