-- `test` meets its contract: the answer of `eliminate` says it.
use Rattle.std.proofs.Common.{ap, ◌∙◌}
use Rattle.tree.specs.Accepted.{eliminated_says}
use Rattle.tree.proofs.test.Goals as goal

pub returns : goal.returns
returns c = ap (λ r. r.offer) c.eliminate.ensures ∙ eliminated_says _ _ _ _ _
