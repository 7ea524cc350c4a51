-- `put_line` meets its contract: three fields, and the last two.
use Rattle.std.proofs.Common.{[], ◌∷◌}
use Rattle.lists.specs.Numbers.{look}
use Rattle.model.specs.Text.{bytes}
use Rattle.text_writers.specs.Fields.{decimal}
use Rattle.text_writers.specs.Writing.{line_ended, room_begun, room_ended}
use Rattle.report.specs.Report.{link_record, link_line}
use Rattle.report.specs.Lent.{name_in}
use Rattle.report.proofs.LinkLists.put_line.Goals as goal

pub put_two_sites-next-requires : goal.put_two_sites-next-requires
unfolding link_line link_record
put_two_sites-next-requires c =
    let s = c.args.self in
    let j = c.args.j in
    let name = name_in c.args.names in
    let named = c.requires.1.named j c.requires.2 in
    let fields = bytes "L" ∷ name (look s.one.now j) ∷ name (look s.two.now j) ∷ [] in
    (room_begun c.args.at fields (decimal (look s.capacity.now j)) (decimal (look s.shown.now j) ∷ []) c.requires.0, named.0, named.1)

pub put_numbers-requires : goal.put_numbers-requires
unfolding link_line link_record
put_numbers-requires c =
    let s = c.args.self in
    let j = c.args.j in
    room_ended _ (decimal (look s.capacity.now j)) (decimal (look s.shown.now j) ∷ []) c.put_two_sites-next.ensures c.requires.0

pub returns : goal.returns
unfolding link_line link_record
returns c = line_ended _ _ _ c.put_two_sites-next.ensures c.put_numbers.ensures
