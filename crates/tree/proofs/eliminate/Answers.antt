-- `eliminate` meets its contract: 0 is no site, so as a root it changes nothing.
use Rattle.std.proofs.Common.{◌∙◌, arith}
use Rattle.tree.specs.Accepted.{eliminated-without-a-root}
use Rattle.tree.proofs.eliminate.Goals as goal

pub returns : goal.returns
returns c = c.eliminate_toward.ensures ∙ eliminated-without-a-root _ _ _ _ _ 0 (λ s. omega arith)
