-- `Note::come`: only the owner and the mark of the way change.
use Rattle.std.proofs.Common.{ap, ◌∙◌}
use Rattle.model.specs.WholeLoads.{on_way}
use Rattle.whole_notes.specs.Notes.{come_note}
use Rattle.whole_notes.proofs.Note.come.Goals as goal

pub returns : goal.returns
unfolding come_note
returns c = rw (← (c.on_of-on.ensures ∙ ap (on_way c.args.self.least c.args.capacity) c.coming_of.ensures), ← c.owner_of.ensures)
