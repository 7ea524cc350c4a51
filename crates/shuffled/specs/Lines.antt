-- The lines of the reports on two sheets whose figures agree: each `L`, `N` and `X` line of the one has its like in the other, and none stands twice.
-- By the place of the plan that each line is written from.
use mathlib.Core.List.{[], map}
use Rattle.std.proofs.Math.Logic.{inl, inr}
use Rattle.std.specs.Prelude.{◌≡◌}
use Rattle.std.proofs.Common.{ap}
use Prim.Native.Nat.{ℕ, zero, suc, ◌+◌, ◌≤◌, ◌<◌}
use native.Mathlib.Omega.{arith}
use Rattle.lists.specs.Numbers.{upfrom}
use Rattle.lists.specs.Sums.{same?}
use Rattle.theory_shuffled.specs.Shuffled.{Stands}

-- ---- lists made place by place
module _ {A : Type 0} (f : ℕ → A) where
  pub stands_mapped : (b n i : ℕ) → b ≤ i → i < b + n → Stands (f i) (map f (upfrom b n))
  unfolding upfrom
  stands_mapped b zero i l h = absurd (omega arith)
  stands_mapped b (suc n) i l h = same? b i (λ e. inl (ap f e)) (λ d. inr (stands_mapped (suc b) n i (omega arith) (omega arith)))

  pub mapped_stands : (b n : ℕ) (q : A) → Stands q (map f (upfrom b n)) → (i : ℕ) × (b ≤ i) × (i < b + n) × (f i ≡ q)
  unfolding upfrom
  mapped_stands b zero q z = absurd z
  mapped_stands b (suc n) q (inl e) = (b, omega arith, omega arith, e)
  mapped_stands b (suc n) q (inr z) = let k = mapped_stands (suc b) n q z in (k.0, omega (arith, k.1), omega (arith, k.2), k.3)
