-- All that the two ways along the order find, and what holds of it: nothing matters but the equations of four records. Letters as in Loads.
use Rattle.std.specs.Prelude.{◌≡◌, ◌⊎◌, List, ℕ, ◌≤◌}
use Rattle.std.proofs.Common.{inl}
use Rattle.lists.specs.Numbers.{count}
use Rattle.theory_whole.specs.Rooted.{Rooted}
use Rattle.theory_whole.specs.Loads.{Good, at_ends, Inwards, Outwards, load_good, load-best}
use Rattle.theory_whole.specs.Sets.{Chains, Owners, own, owner-end}

pub record Solution (us : List ℕ) (par c term : ℕ → ℕ) : Type 0 where
  pub A : ℕ → ℕ
  pub B : ℕ → ℕ
  pub a : ℕ → ℕ
  pub b : ℕ → ℕ
  pub top : ℕ → ℕ
  pub goal : ℕ → ℕ
  pub load : ℕ → ℕ
  pub owner : ℕ → ℕ
  pub on : ℕ → ℕ
  pub inwards : Inwards us par c term A B a b top
  pub chains : Chains us par c term A top goal
  pub outwards : Outwards us par c term B b top load
  pub owners : Owners us par c term A B top goal owner on

module _ {us : List ℕ} {par pos : ℕ → ℕ} (R : Rooted us par pos) {c term : ℕ → ℕ} (X : Solution us par c term) where
  -- 1: the loads are good
  pub solution_good : Good us par c term X.load
  solution_good = load_good R X.inwards X.outwards

  -- 2, 3: no good loads bring more to the terminals
  pub solution_best : {x : ℕ → ℕ} → Good us par c term x → at_ends us par c term x ≤ at_ends us par c term X.load
  solution_best g = load-best R X.inwards X.outwards g

  -- 4: each terminal is in its own set, and every set is a terminal's;
  pub solution_own : (t : ℕ) → 1 ≤ count us t → term t ≡ 1 → X.owner t ≡ t
  solution_own t p m = own R X.inwards X.chains X.owners t p m

  pub solution_owner : (v : ℕ) → 1 ≤ count us v → (X.owner v ≡ 0) ⊎ ((1 ≤ count us (X.owner v)) × (term (X.owner v) ≡ 1))
  solution_owner v p = owner-end R X.inwards X.chains X.owners v (inl p)
