-- `put_line` meets its contract: three fields, and the last four.
use Rattle.std.proofs.Common.{[], ◌∷◌}
use Rattle.lists.specs.Numbers.{look}
use Rattle.model.specs.Text.{bytes}
use Rattle.text_writers.specs.Fields.{decimal}
use Rattle.text_writers.specs.Writing.{line_ended, room_begun, room_ended}
use Rattle.report.specs.Span.{range_record, range_line}
use Rattle.report.specs.Lent.{name_in}
use Rattle.report.proofs.RangeLists.put_line.Goals as goal

pub put_two_sites-next-requires : goal.put_two_sites-next-requires
unfolding range_line range_record
put_two_sites-next-requires c =
    let s = c.args.self in
    let j = c.args.j in
    let name = name_in c.args.names in
    let named = c.requires.1.named j c.requires.2 in
    let fields = bytes "L" ∷ name (look s.one.now j) ∷ name (look s.two.now j) ∷ [] in
    let rest = decimal (look s.high.now j) ∷ decimal (look s.least.now j) ∷ decimal (look s.greatest.now j) ∷ [] in
    (room_begun c.args.at fields (decimal (look s.low.now j)) rest c.requires.0, named.0, named.1)

pub put_four-requires : goal.put_four-requires
unfolding range_line range_record
put_four-requires c =
    let s = c.args.self in
    let j = c.args.j in
    let rest = decimal (look s.high.now j) ∷ decimal (look s.least.now j) ∷ decimal (look s.greatest.now j) ∷ [] in
    room_ended _ (decimal (look s.low.now j)) rest c.put_two_sites-next.ensures c.requires.0

pub returns : goal.returns
unfolding range_line range_record
returns c = line_ended _ _ _ c.put_two_sites-next.ensures c.put_four.ensures
