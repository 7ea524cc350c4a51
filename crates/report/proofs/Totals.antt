-- Totals of the first pairs of a list: one pair more, and no more than the whole.
use mathlib.Core.Path.{◌≡◌, refl}
use mathlib.Core.List.{List, [], ◌∷◌}
use Prim.Native.Nat.{ℕ, zero, suc, ◌+◌, ◌≤◌, ◌<◌}
use native.Mathlib.Numerals.{add-one}
use native.Mathlib.Omega.{arith}
use lib.ListN.{length, get_or, take}
use Rattle.model.specs.Flows.{total}
use Rattle.model.specs.declared.Pair.{Pair}
use Rattle.report.specs.Shown.{no_pair_lem}

pub total_none : 0 ≡ total []
unfolding total
total_none = refl

total-suc : (pairs : List Pair) (i : ℕ) → i < length pairs → total (take (suc i) pairs) ≡ total (take i pairs) + (get_or pairs i no_pair_lem).amount
unfolding total
total-suc [] i h = absurd (omega arith)
total-suc (e ∷ es) zero h = omega arith
total-suc (e ∷ es) (suc i) h = omega (arith, total-suc es i (omega arith))

pub total-next : (pairs : List Pair) (i : ℕ) → i < length pairs → total (take (i + 1) pairs) ≡ total (take i pairs) + (get_or pairs i no_pair_lem).amount
total-next pairs i h = rw add-one (total-suc pairs i h)

pub total-part : (pairs : List Pair) (i n : ℕ) → i ≤ n → total (take i pairs) ≤ total (take n pairs)
unfolding total
total-part [] zero n h = omega arith
total-part [] (suc i) zero h = absurd (omega arith)
total-part [] (suc i) (suc n) h = omega arith
total-part (e ∷ es) zero n h = omega arith
total-part (e ∷ es) (suc i) zero h = absurd (omega arith)
total-part (e ∷ es) (suc i) (suc n) h = omega (arith, total-part es i n (omega arith))
