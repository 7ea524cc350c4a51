-- `heavy::is_heavy` meets its contract, by its test.
use mathlib.Core.Path.{refl}
use native.Mathlib.Omega.{arith}
use Rattle.pairing.proofs.weighing.is_heavy.Statement.{statement}
use Rattle.pairing.proofs.weighing.is_heavy.Tie as tie

pub is_heavy_spec : {M : Type 1} → statement M
is_heavy_spec = tie.close (tie.spec (λ c. omega arith) (λ c. refl))
