-- `put_pair` meets its contract: three fields, and the last.
use Rattle.std.proofs.Common.{[], ◌∷◌}
use Rattle.model.specs.Text.{bytes}
use Rattle.text_writers.specs.Fields.{decimal, line}
use Rattle.text_writers.specs.Writing.{line_ended, last_field_lem, room_begun, room_ended}
use Rattle.report.specs.Report.{pair_line}
use Rattle.report.specs.Lent.{name_in}
use Rattle.report.proofs.put_pair.Goals as goal

pub put_two_sites-next-requires : goal.put_two_sites-next-requires
unfolding pair_line
put_two_sites-next-requires c =
    let name = name_in c.args.names in
    let pair = c.args.pair in
    (room_begun c.args.at (bytes "P" ∷ name pair.first ∷ name pair.second ∷ []) (decimal pair.amount) [] c.requires.0, c.requires.1.0, c.requires.1.1)

pub put_number-requires : goal.put_number-requires
unfolding pair_line line
put_number-requires c = room_ended _ (decimal c.args.pair.amount) [] c.put_two_sites-next.ensures c.requires.0

pub returns : goal.returns
unfolding pair_line
returns c = line_ended _ _ _ c.put_two_sites-next.ensures (last_field_lem _ c.put_number.ensures)
