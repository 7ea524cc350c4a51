-- Disjoint sets, one for each terminal, whose sizes less the odd pieces are what the loads bring to the terminals. By adding up, children first, what the
-- links below a site leave of sets: three cases by how the set of the parent goes on. Letters as in Loads; goal: where the children `top` lead.
use Rattle.std.specs.Prelude.{◌≡◌, ◌≢◌, ◌⊎◌, List}
use Rattle.std.proofs.Common.{◌∙◌}
use Rattle.std.proofs.Math.Logic.{inl, inr}
use Prim.Native.Nat.{ℕ, ◌+◌, ◌*◌, ◌≤◌, ◌<◌}
use native.Mathlib.Omega.{arith}
use Rattle.lists.specs.Numbers.{pick, is, differ, count, over}
use Rattle.lists.specs.Sums.{pick_other, same?}
use Rattle.theory_whole.specs.Rooted.{Rooted, children-first, parent_first}
use Rattle.theory_whole.specs.Loads.{Inwards}

-- what is decided at a site: it starts or goes on with a set, it keeps its parent's set, or it is in no set
pub data Choice (A B c path up goal owner on : ℕ) : Type 0 where
  head : 2 ≤ A → c < A → on ≡ 1 → owner ≡ goal → Choice A B c path up goal owner on
  chain : 2 ≤ A → path ≡ 1 → on ≡ 1 → owner ≡ goal → Choice A B c path up goal owner on
  kept : (2 ≤ A → (A ≤ c) × (path ≡ 0)) → B ≤ c → on ≡ 0 → owner ≡ up → Choice A B c path up goal owner on
  free : (2 ≤ A → (A ≤ c) × (path ≡ 0)) → c < B → on ≡ 0 → owner ≡ 0 → Choice A B c path up goal owner on

module _ (us : List ℕ) (par c term : ℕ → ℕ) where
  -- 1 if v is the child `top` of a site that is on
  unfoldable pub path : (ℕ → ℕ) → (ℕ → ℕ) → ℕ → ℕ
  path top on v = pick (on (par v)) 1 (is (top (par v)) v) 0

  -- the terminal at the end of the chain of tops
  pub record Chains (A top goal : ℕ → ℕ) : Type 0 where
    pub wide : (v : ℕ) → 1 ≤ count us v → term v ≡ 1 → 2 ≤ A v
    pub bare : (v : ℕ) → 1 ≤ count us v → term v ≡ 1 → top v ≡ 0
    pub end : (v : ℕ) → 1 ≤ count us v → term v ≡ 1 → goal v ≡ v
    pub inner : (v : ℕ) → 1 ≤ count us v → term v ≢ 1 → goal v ≡ goal (top v)

  -- the sets, found from the root outward; 0 stands for no set
  pub record Owners (A B top goal owner on : ℕ → ℕ) : Type 0 where
    pub nobody : owner 0 ≡ 0
    pub off : on 0 ≡ 0
    pub rule : (v : ℕ) → 1 ≤ count us v → Choice (A v) (B v) (c v) (path top on v) (owner (par v)) (goal v) (owner v) (on v)

  -- how many sets have just one site of the link from v to its parent
  unfoldable pub leaves : (ℕ → ℕ) → ℕ → ℕ
  leaves owner v = differ (owner v) (owner (par v)) * (differ (owner v) 0 + differ (owner (par v)) 0)

  -- the capacities of the links with just one site in the set of t
  unfoldable pub set_size : (ℕ → ℕ) → ℕ → ℕ
  set_size owner t = over us (λ v. differ (is (owner v) t) (is (owner (par v)) t) * c v)

module _ {us : List ℕ} {par pos : ℕ → ℕ} (R : Rooted us par pos) {c term A B a b top : ℕ → ℕ} (I : Inwards us par c term A B a b top)
    {goal : ℕ → ℕ} (D : Chains us par c term A top goal) where
  pub site-zero : {v : ℕ} → 1 ≤ count us v → v ≢ 0
  site-zero p e = omega (arith, rw e at p, R.root_free)

  pub goal_end : (v : ℕ) → 1 ≤ count us v → (1 ≤ count us (goal v)) × (term (goal v) ≡ 1)
  goal_end = children-first R (λ v. (1 ≤ count us (goal v)) × (term (goal v) ≡ 1)) (λ v p ih. same? (term v) 1
      (λ m. rw (D.end v p m) (p, m))
      (λ m. rw (D.inner v p m) (ih (top v) (I.child v p m))))

  module _ {owner on : ℕ → ℕ} (O : Owners us par c term A B top goal owner on) where
    abbrev pub on_path : ℕ → ℕ
    on_path v = path us par c term top on v

    pub on_yes : (v : ℕ) → 1 ≤ count us v → on v ≡ 1 → (2 ≤ A v) × (owner v ≡ goal v)
    on_yes v p e = yes-case (O.rule v p)
      where
        yes-case : Choice (A v) (B v) (c v) (on_path v) (owner (par v)) (goal v) (owner v) (on v) → (2 ≤ A v) × (owner v ≡ goal v)
        yes-case (Choice.head h l o q) = (h, q)
        yes-case (Choice.chain h l o q) = (h, q)
        yes-case (Choice.kept n l o q) = absurd (omega arith)
        yes-case (Choice.free n l o q) = absurd (omega arith)

    pub on_end : (v : ℕ) → 1 ≤ count us v → term v ≡ 1 → on v ≡ 1
    on_end v p m = end-case (O.rule v p)
      where
        end-case : Choice (A v) (B v) (c v) (on_path v) (owner (par v)) (goal v) (owner v) (on v) → on v ≡ 1
        end-case (Choice.head h l o q) = o
        end-case (Choice.chain h l o q) = o
        end-case (Choice.kept n l o q) = absurd (omega (arith, n (D.wide v p m), I.wide v p m))
        end-case (Choice.free n l o q) = absurd (omega (arith, n (D.wide v p m), I.wide v p m))

    -- each terminal is in its own set
    pub own : (v : ℕ) → 1 ≤ count us v → term v ≡ 1 → owner v ≡ v
    own v p m = (on_yes v p (on_end v p m)).1 ∙ D.end v p m

    pub path_off : (v : ℕ) → on (par v) ≢ 1 → on_path v ≡ 0
    unfolding path
    path_off v d = pick_other d (is (top (par v)) v) 0

    -- owners are terminals
    pub owner-end : (v : ℕ) → (1 ≤ count us v) ⊎ (v ≡ 0) → (owner v ≡ 0) ⊎ ((1 ≤ count us (owner v)) × (term (owner v) ≡ 1))
    owner-end v (inr e) = inl (rw e O.nobody)
    owner-end v (inl p) = parent_first R (λ v. (owner v ≡ 0) ⊎ ((1 ≤ count us (owner v)) × (term (owner v) ≡ 1)))
        (inl O.nobody)
        (λ v p ih. next v p ih (O.rule v p))
        v p
      where
        next : (v : ℕ) → 1 ≤ count us v → (owner (par v) ≡ 0) ⊎ ((1 ≤ count us (owner (par v))) × (term (owner (par v)) ≡ 1))
            → Choice (A v) (B v) (c v) (on_path v) (owner (par v)) (goal v) (owner v) (on v)
            → (owner v ≡ 0) ⊎ ((1 ≤ count us (owner v)) × (term (owner v) ≡ 1))
        next v p ih (Choice.head k l o r) = inr (rw r (goal_end v p))
        next v p ih (Choice.chain k l o r) = inr (rw r (goal_end v p))
        next v p ih (Choice.kept n l o r) = rw r ih
        next v p ih (Choice.free n l o r) = inl r
