-- `Note::joined`: only the sum and the greatest child change.
use Rattle.whole_notes.specs.Notes.{joined_note}
use Rattle.whole_notes.proofs.Note.joined.Goals as goal

pub returns : goal.returns
unfolding joined_note
returns c = rw (← c.top_of.ensures)
