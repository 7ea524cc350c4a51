-- `kept` meets its contract, offer by offer.
use Rattle.std.proofs.Math.Path.{refl}
use Rattle.tree.specs.Elimination.{decide}
use Rattle.tree.proofs.kept.Goals as goal

pub returns-in-Ok : goal.returns-in-Ok
unfolding decide
returns-in-Ok c = rw c.in-Ok.is refl

pub returns-in-Err : goal.returns-in-Err
unfolding decide
returns-in-Err c = rw c.in-Err.is refl
