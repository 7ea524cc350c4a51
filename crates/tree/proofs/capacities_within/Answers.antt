-- `capacities_within` meets its contract: the test of the places decides.
use Rattle.std.proofs.Common.{rules}
use Rattle.tree.specs.Accepted.{within_tested}
use Rattle.tree.proofs.capacities_within.Goals as goal

pub returns : goal.returns
returns c = within_tested c.args.most c.args.list.now c.all.result (search rules)
