-- `within` meets its contract, case by case.
use Rattle.std.proofs.Common.{sym, ap}
use Rattle.region.specs.NumberText.{within}
use Rattle.region.proofs.within.Goals as goal

pub returns-in-Some : goal.returns-in-Some
unfolding within
returns-in-Some c = sym (ap within c.in-Some.is)

pub returns-in-None : goal.returns-in-None
unfolding within
returns-in-None c = sym (ap within c.in-None.is)
