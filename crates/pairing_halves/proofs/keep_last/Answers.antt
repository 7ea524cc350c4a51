-- `keep_last`: the entry at the place is cut in the array, then all is moved down.
use Rattle.pairing_halves.proofs.Moving.{kept-none, kept_last}
use Rattle.pairing_halves.proofs.keep_last.Goals as goal

pub returns-then-to-at : goal.returns-then-to-at
returns-then-to-at c = kept-none c.args.base c.requires.0 c.if-to-at.true

pub returns : goal.returns
returns c = kept_last c.requires.0 c.if-to-at.false c.requires.1 c.move_down.ensures
