-- `trimming_passes::there_and_back` meets its contract, by its test.
use native.Mathlib.Omega.{arith}
use Rattle.trimming_passes.proofs.there_and_back.Statement.{statement}
use Rattle.trimming_passes.proofs.there_and_back.Tie as tie

pub there_and_back_spec : {M : Type 1} → statement M
there_and_back_spec = tie.close (tie.spec (λ c. omega arith) (λ c. omega arith) (λ c. omega arith) (λ c. omega arith) (λ c. omega arith))
