-- `tree::is_proper` meets its contract: once the numbers are right, the links decide.
use native.Mathlib.Omega.{arith}
use borrow.Author.Rules.{rules}
use Rattle.tree.specs.Steps.{tells_of}
use Rattle.tree.proofs.is_proper.Statement.{statement}
use Rattle.tree.proofs.is_proper.Tie as tie

links-decide : tie.Need-returns
links-decide c = tells_of c.all_links.result
    (λ all. record { big = omega arith; few = omega arith; firsts = omega arith; seconds = omega arith; links = all })
    (λ p. p.links)
    c.all_links.ensures

pub is_proper_spec : {M : Type 1} → statement M
is_proper_spec =
    tie.close
    (tie.spec (λ c. search rules) (λ c. search rules) (λ c. omega arith) (λ c. search rules) (λ c. omega arith) (λ c. search rules) (λ c κs. omega arith)
    links-decide)
