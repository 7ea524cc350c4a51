-- Odd pieces are counted at their first sites, seen from the root: B and c there have the parity of the links that leave the piece. By adding up B over the
-- sites of a piece: below a site in no set, the high b of a child has the parity of its B or of its c. Letters as in Loads.
use Rattle.std.specs.Prelude.{◌≡◌, ◌≢◌}
use Rattle.std.proofs.Math.Path.{ap}
use mathlib.Core.List.{List, []}
use Prim.Native.Nat.{ℕ, ◌*◌, ◌≤◌}
use native.Mathlib.Omega.{arith}
use Rattle.lists.specs.Numbers.{is, differ, count, over}
use Rattle.lists.specs.Sums.{same?}
use Rattle.theory_whole.specs.Rooted.{Rooted, parent_first}
use Rattle.theory_whole.specs.Loads.{Inwards}
use Rattle.theory_whole.specs.Sets.{Chains, Owners}

module _ (us : List ℕ) (par c owner : ℕ → ℕ) where
  -- the first site of v's piece; a site in a set stands for itself
  pub record Firsts (rep : ℕ → ℕ) : Type 0 where
    pub nowhere : rep 0 ≡ 0
    pub joined : (v : ℕ) → 1 ≤ count us v → owner v ≡ 0 → owner (par v) ≡ 0 → c v ≢ 0 → rep v ≡ rep (par v)
    pub in_set : (v : ℕ) → 1 ≤ count us v → owner v ≢ 0 → rep v ≡ v
    pub at_set : (v : ℕ) → 1 ≤ count us v → owner (par v) ≢ 0 → rep v ≡ v
    pub at_none : (v : ℕ) → 1 ≤ count us v → c v ≡ 0 → rep v ≡ v

  -- 1 if v is in the piece of r
  unfoldable pub member : (ℕ → ℕ) → ℕ → ℕ → ℕ
  member rep r v = is (owner v) 0 * is (rep v) r

  -- the capacities of the links that leave the piece of r
  unfoldable pub leaving : (ℕ → ℕ) → ℕ → ℕ
  leaving rep r = over us (λ v. differ (member rep r v) (member rep r (par v)) * c v)

module _ {us : List ℕ} {par pos : ℕ → ℕ} (R : Rooted us par pos) {c term A B a b top : ℕ → ℕ} (I : Inwards us par c term A B a b top)
    {goal owner on : ℕ → ℕ} (D : Chains us par c term A top goal) (O : Owners us par c term A B top goal owner on)
    {rep : ℕ → ℕ} (F : Firsts us par c owner rep) where
  -- joined to the parent, or first
  pub joins : {C : Type 0} (v : ℕ) → 1 ≤ count us v → (owner v ≡ 0 → owner (par v) ≡ 0 → c v ≢ 0 → rep v ≡ rep (par v) → C) → (rep v ≡ v → C) → C
  joins v p f g = same? (owner v) 0
      (λ o. same? (owner (par v)) 0
      (λ u. same? (c v) 0 (λ z. g (F.at_none v p z)) (λ d. f o u d (F.joined v p o u d)))
      (λ u. g (F.at_set v p u)))
      (λ o. g (F.in_set v p o))

  pub record First (v : ℕ) : Type 0 where
    pub site : 1 ≤ count us (rep v)
    pub above : pos v ≤ pos (rep v)
    pub free : owner v ≡ 0 → owner (rep v) ≡ 0
    pub first : rep (rep v) ≡ rep v

  pub firsts : (v : ℕ) → 1 ≤ count us v → First v
  firsts v p = parent_first R (λ v. 1 ≤ count us v → First v)
      (λ q. absurd (omega (arith, R.root_free)))
      (λ v p ih _. joins v p
      (λ o u d e. let s = ih (R.home v p (λ z. d (I.bare v p z))) in record {
        site = rw e s.site;
        above = rw e (omega (arith, s.above, R.later v p));
        free = λ _. rw e (s.free u);
        first = rw e s.first;
      })
      (λ e. record { site = rw e p; above = rw e (omega arith); free = λ q. rw e q; first = ap rep e }))
      v p p

  pub rep_site : (v : ℕ) → 1 ≤ count us v → 1 ≤ count us (rep v)
  rep_site v p = (firsts v p).site

  pub rep_rep : (v : ℕ) → 1 ≤ count us v → rep (rep v) ≡ rep v
  rep_rep v p = (firsts v p).first
