-- `OpenPairs::new`: zeros hold no pair.
use Rattle.log_pairs.specs.Rows.{held_none}
use Rattle.log_pairs.proofs.OpenPairs.new.Goals as goal

pub returns : goal.returns
returns c = held_none
