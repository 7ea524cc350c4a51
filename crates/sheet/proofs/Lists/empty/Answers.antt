-- `Lists::empty`: it is the definition.
use Rattle.std.proofs.Common.{refl}
use Rattle.sheet.specs.Reading.{padded, lists}
use Rattle.sheet.proofs.Lists.empty.Goals as goal

pub returns : goal.returns
unfolding lists padded
returns c = refl
