-- `put_numbers` meets its contract: a field, and the last one of the line.
use Rattle.std.proofs.Common.{[], ◌∷◌}
use Rattle.text_writers.specs.Fields.{decimal, line, begun}
use Rattle.text_writers.specs.Writing.{first_field, last_field_lem, line_ended, room_begun, room_ended}
use Rattle.text_writers.proofs.put_numbers.Goals as goal

pub put_number-next-requires : goal.put_number-next-requires
unfolding begun
put_number-next-requires c = room_begun c.args.at (decimal c.args.first ∷ []) (decimal c.args.second) [] c.requires

pub put_number-requires : goal.put_number-requires
unfolding line
put_number-requires c = room_ended (decimal c.args.first ∷ []) (decimal c.args.second) [] (first_field _ c.put_number-next.ensures) c.requires

pub returns : goal.returns
returns c = line_ended _ _ _ (first_field _ c.put_number-next.ensures) (last_field_lem _ c.put_number.ensures)
