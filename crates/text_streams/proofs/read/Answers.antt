-- What is read is the front of what the input had.
use Rattle.text_streams.proofs.Taken.{front_held}
use Rattle.text_streams.proofs.read.Goals as goal

pub returns-clause-front : goal.returns-clause-front
returns-clause-front g c whole =
    let past = c.read_from.ensures in front_held _ _ _ _ past.count.0 past.bytes (past.end whole)
