-- `put_four` meets its contract: two fields, and the last two.
use Rattle.std.proofs.Common.{[], ◌∷◌}
use Rattle.text_writers.specs.Fields.{decimal, begun}
use Rattle.text_writers.specs.Writing.{first_field, next_field, line_ended, room_begun, room_next, room_ended}
use Rattle.report.proofs.put_four.Goals as goal

pub put_number-one-requires : goal.put_number-one-requires
unfolding begun
put_number-one-requires c =
    let a = c.args in
    room_begun a.at (decimal a.first ∷ []) (decimal a.second) (decimal a.third ∷ decimal a.fourth ∷ []) c.requires

pub put_number-two-requires : goal.put_number-two-requires
put_number-two-requires c =
    let a = c.args in
    let one = first_field (decimal a.first) c.put_number-one.ensures in
    room_next (decimal a.first ∷ []) (decimal a.second) one
    (room_begun a.at (decimal a.first ∷ decimal a.second ∷ []) (decimal a.third) (decimal a.fourth ∷ []) c.requires)

pub put_numbers-requires : goal.put_numbers-requires
put_numbers-requires c =
    let a = c.args in
    let one = first_field (decimal a.first) c.put_number-one.ensures in
    let two = next_field (decimal a.first ∷ []) (decimal a.second) one c.put_number-two.ensures in
    room_ended (decimal a.first ∷ decimal a.second ∷ []) (decimal a.third) (decimal a.fourth ∷ []) two c.requires

pub returns : goal.returns
returns c =
    let a = c.args in
    let one = first_field (decimal a.first) c.put_number-one.ensures in
    let two = next_field (decimal a.first ∷ []) (decimal a.second) one c.put_number-two.ensures in
    line_ended (decimal a.first ∷ decimal a.second ∷ []) (decimal a.third) (decimal a.fourth ∷ []) two c.put_numbers.ensures
