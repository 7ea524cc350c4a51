-- `Note::loaded`: only the load changes.
use Rattle.whole_notes.specs.Notes.{loaded_note}
use Rattle.whole_notes.proofs.Note.loaded.Goals as goal

pub returns : goal.returns
unfolding loaded_note
returns c = rw (← c.load_of.ensures)
