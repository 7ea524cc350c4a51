-- `heading` meets its contract: a field, and the last two.
use Rattle.std.proofs.Common.{[], ◌∷◌, length}
use Rattle.model.specs.Flows.{total}
use Rattle.text_writers.specs.Fields.{decimal, begun}
use Rattle.text_writers.specs.Writing.{line_ended, first_field, room_begun, room_ended}
use Rattle.report.specs.Report.{head_record}
use Rattle.report.proofs.heading.Goals as goal

pub put_bytes-next-requires : goal.put_bytes-next-requires
unfolding head_record begun
put_bytes-next-requires c =
    room_begun 0 (c.args.word.now ∷ []) (decimal (total c.args.pairs.now)) (decimal (length c.args.pairs.now) ∷ []) c.requires.0

pub put_numbers-requires : goal.put_numbers-requires
unfolding head_record
put_numbers-requires c =
    let halves = total c.args.pairs.now in
    rw c.amounts-halves.ensures
    (room_ended (c.args.word.now ∷ []) (decimal halves) (decimal (length c.args.pairs.now) ∷ []) (first_field _ c.put_bytes-next.ensures) c.requires.0)

pub returns : goal.returns
unfolding head_record
returns c = line_ended _ _ _ (first_field _ c.put_bytes-next.ensures) (rw c.amounts-halves.ensures at c.put_numbers.ensures)
