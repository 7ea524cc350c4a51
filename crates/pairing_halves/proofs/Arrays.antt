-- Lists of halves that stand in arrays, read from the front.
use mathlib.Core.Path.{◌≡◌, ap, ◌∙◌}
use mathlib.Core.List.{List, [], ◌∷◌, ◌++◌}
use Prim.Native.Nat.{ℕ, ◌+◌, ◌≤◌, ◌<◌}
use native.Mathlib.Omega.{arith}
use native.Mathlib.Numerals.{add-one}
use lib.Seq.{slice, slice-cons, slice_empty, length-take-le, take-suc, drop-append-le}
use lib.ListN.{length, take, drop, get_or}
use Rattle.model.specs.Pairing.{Halves}
use Rattle.pairing_halves.specs.Arrays.{entry, Stands}

-- one element more
pub slice_more : {A : Type 0} (a : List A) (b e : ℕ) (d : A) → b ≤ e → e < length a → slice b (e + 1) a ≡ slice b e a ++ (get_or a e d ∷ [])
slice_more a b e d h k =
    rw (add-one e) (ap (drop b) (take-suc a e d k) ∙ drop-append-le b (take e a) (get_or a e d ∷ []) (rw (length-take-le e a (omega arith)) h))

pub stands_end : {a : Halves} {b e : ℕ} → Stands a b e → e ≤ b → slice b e a ≡ []
stands_end {a} {b} {e} s h = let same : b ≡ e = omega arith in rw same (slice_empty e a)

module _ {a : Halves} {b e : ℕ} (s : Stands a b e) (l : b < e) where
  pub front_entry : slice b e a ≡ entry a b ∷ slice (b + 1) e a
  front_entry = rw (add-one b) (slice-cons b e a (0, 0) l s.inside)

  pub front_rest : Stands a (b + 1) e
  front_rest = record { begins = omega arith; inside = s.inside; filled = (rw front_entry at s.filled).1 }

  pub front_positive : 1 ≤ (entry a b).1
  front_positive = (rw front_entry at s.filled).0
