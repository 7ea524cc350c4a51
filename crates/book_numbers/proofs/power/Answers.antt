-- `power` meets its contract: the powers that are asked for are small.
use Rattle.book_numbers.specs.Laws.{power_small}
use Rattle.book_numbers.proofs.power.Goals as goal

pub pow-requires : goal.pow-requires
pow-requires c = power_small c.args.base c.args.k c.requires.0 c.requires.1
