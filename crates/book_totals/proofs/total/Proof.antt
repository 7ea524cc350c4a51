-- `total` meets its contract: no site is marked.
use mathlib.Core.Path.{◌≡◌, refl, sym, ap}
use mathlib.Core.List.{◌∷◌}
use Prim.Native.Nat.{ℕ, zero, suc, ◌≤◌}
use native.Mathlib.Omega.{arith}
use lib.ListN.{take, replicate}
use lib.Seq.{length-take-le}
use borrow.Author.Rules.{rules}
use Rattle.book_totals.proofs.total.Statement.{statement}
use Rattle.book_totals.proofs.total.Tie as tie

-- the first of so many zeros
zeros : (n m : ℕ) → n ≤ m → take {A = ℕ} n (replicate m 0) ≡ replicate n 0
zeros zero m h = refl
zeros (suc n) zero h = absurd (omega arith)
zeros (suc n) (suc m) h = ap (λ l. 0 ∷ l) (zeros n m (omega arith))

slice-aggregate-total-unmarked : tie.Need-slice_bounds-total_unmarked-end
slice-aggregate-total-unmarked c =
    let s = c.before.before.before.before in
    sym (length-take-le {A = ℕ} s.args.n (replicate 5 0) (omega (arith, s.requires.most)))

total-unmarked-requires : tie.Need-total_unmarked-requires
total-unmarked-requires c κs = let s = c.before.before.before.before in (s.requires, zeros s.args.n 5 s.requires.most)

pub total_spec : {M : Type 1} → statement M
total_spec = tie.close (tie.spec (λ c. search rules) slice-aggregate-total-unmarked total-unmarked-requires (λ c. search rules))
