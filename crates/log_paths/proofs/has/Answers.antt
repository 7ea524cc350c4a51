-- `has`: the bit of the number in the word that holds it.
use Rattle.std.proofs.Common.{refl}
use Rattle.log_paths.specs.Tables.{in_table}
use Rattle.log_paths.proofs.has.Goals as goal

pub returns : goal.returns
unfolding in_table
returns c = refl
