-- `Note::taken`: the interval, the terminal that it leads to and the load to start from.
use Rattle.model.specs.WholeLoads.{lowest}
use Rattle.whole_notes.specs.Notes.{taken_note}
use Rattle.whole_notes.proofs.Note.taken.Goals as goal

pub returns : goal.returns
unfolding taken_note lowest
returns c = rw (← c.least_of-least.ensures, ← c.high_of-high.ensures, ← c.min.ensures, ← c.goal_of.ensures)
