-- `earlier` meets its contract, by its test.
use mathlib.Core.Path.{refl}
use mathlib.Core.Logic.{inl, inr}
use native.Mathlib.Omega.{arith}
use borrow.Author.Rules.{rules}
use Rattle.whole_parents.proofs.earlier.Statement.{statement}
use Rattle.whole_parents.proofs.earlier.Tie as tie

pub earlier_spec : {M : Type 1} → statement M
earlier_spec =
    tie.close
    (tie.spec
    (λ c. search rules)
    (λ c. search rules)
    (λ c. search rules)
    (λ c. search rules)
    (λ c. record { site = omega arith; which = inl (refl, omega arith) })
    (λ c. record { site = omega arith; which = inr (refl, omega arith) }))
