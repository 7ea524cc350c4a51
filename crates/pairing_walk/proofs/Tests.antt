-- Tests of one site after the other, as a loop makes them: the lowest site that is no terminal.
use mathlib.Core.Path.{◌≡◌}
use mathlib.Core.Logic.{◌≢◌}
use Prim.Native.Nat.{ℕ, suc, ◌+◌, ◌-◌, ◌≤◌, ◌<◌}
use native.Mathlib.Omega.{arith}
use native.Mathlib.Numerals.{add-one}
use Rattle.model.specs.Pairing.{lowest_inner}
use Rattle.lists.specs.Sums.{pick_same, pick_other}

-- as many numbers as there are from i up to e
one_more : (i e : ℕ) → i < e → e - i ≡ suc (e - (i + 1))
one_more i e h = omega arith

none_left : (i e : ℕ) → e ≤ i → e - i ≡ 0
none_left i e h = omega arith

module _ (f : ℕ → ℕ) (i e : ℕ) where
  pub lowest-next : i < e → f i ≡ 1 → lowest_inner f i (e - i) ≡ lowest_inner f (i + 1) (e - (i + 1))
  unfolding lowest_inner
  lowest-next h q = rw (one_more i e h, add-one i) (pick_same q (lowest_inner f (suc i) (e - suc i)) i)

  pub lowest-here : i < e → f i ≢ 1 → lowest_inner f i (e - i) ≡ i
  unfolding lowest_inner
  lowest-here h q = rw (one_more i e h) (pick_other q (lowest_inner f (suc i) (e - (i + 1))) i)

  pub lowest-end : e ≤ i → lowest_inner f i (e - i) ≡ 0
  unfolding lowest_inner
  lowest-end h = rw (none_left i e h)
