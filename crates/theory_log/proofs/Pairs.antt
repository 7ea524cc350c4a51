-- Laws of the list of open pairs: loads, places of a pair, entries and lengths as a pair grows and shrinks. By induction along the list.
use Rattle.std.specs.Prelude.{◌≡◌}
use Rattle.std.proofs.Math.Path.{refl}
use mathlib.Core.List.{List, [], ◌∷◌}
use Prim.Native.Nat.{ℕ, ◌-◌}
use native.Mathlib.Omega.{arith}
use Rattle.lists.specs.Numbers.{Each}
use Rattle.model.specs.declared.Pair.{Pair}
use Rattle.lists.specs.Sums.{same?, is_same}
use Rattle.model.specs.Booking.{same, open_of, places_of, Entry}
use Rattle.theory_log.specs.Pairs.{same-other}

pub same-is : (a b : ℕ) (e : Pair) → e.first ≡ a → e.second ≡ b → same a b e ≡ 1
unfolding same
same-is a b e p q = rw (is_same p, is_same q) refl

pub open_some : (n a b : ℕ) (es : List Pair) → Each (Entry n) es → open_of a b es ≡ 0 → places_of a b es ≡ 0
unfolding open_of places_of
open_some n a b [] h z = refl
open_some n a b (e ∷ es) h z = same? (same a b e) 1
    (λ s. let k = h.0.some in absurd (omega (arith, rw s at z)))
    (λ d. omega (arith, same-other a b e d, open_some n a b es h.1 (omega (arith, rw (same-other a b e d) at z))))
