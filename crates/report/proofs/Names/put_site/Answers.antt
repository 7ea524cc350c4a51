-- `put_site` meets its contract: a letter, and one field more.
use Rattle.std.proofs.Common.{[], ◌∷◌}
use Rattle.text_writers.specs.Fields.{begun}
use Rattle.text_writers.specs.Writing.{first_field, next_field, room_fields, room_next}
use Rattle.report.specs.Lent.{name_in}
use Rattle.report.proofs.Names.put_site.Goals as goal

pub put_letter-next-requires : goal.put_letter-next-requires
unfolding begun
put_letter-next-requires c = room_fields c.args.at ((c.args.letter ∷ []) ∷ []) (name_in c.args.self c.args.v) c.requires.0

pub put_name-requires : goal.put_name-requires
put_name-requires c = (room_next ((c.args.letter ∷ []) ∷ []) _ (first_field _ c.put_letter-next.ensures) c.requires.0, c.requires.1)

pub returns : goal.returns
returns c = next_field _ _ (first_field _ c.put_letter-next.ensures) c.put_name.ensures
