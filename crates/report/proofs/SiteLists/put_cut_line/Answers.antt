-- `put_cut_line` meets its contract: nothing, or two fields and the last two.
use Rattle.std.proofs.Common.{◌-◌, [], ◌∷◌}
use Rattle.lists.specs.Numbers.{look}
use Rattle.lists.specs.Sums.{pick_same, pick_other}
use Rattle.model.specs.Text.{bytes}
use Rattle.text_writers.specs.Fields.{decimal}
use Rattle.text_writers.specs.Writing.{nothing, line_ended, room_begun, room_ended}
use Rattle.report.specs.Report.{cut_record, cut_line}
use Rattle.report.specs.Lent.{name_in}
use Rattle.report.proofs.SiteLists.put_cut_line.Goals as goal

pub returns-then-self-a-ne1 : goal.returns-then-self-a-ne1
unfolding cut_line
returns-then-self-a-ne1 c = rw (pick_other c.if-self-a-ne1.true) (nothing _ _)

pub put_site-next-requires : goal.put_site-next-requires
unfolding cut_line cut_record
put_site-next-requires c =
    let s = c.args.self in
    let room = rw (pick_same c.if-self-a-ne1.false) at c.requires.0 in
    let fields = bytes "X" ∷ name_in c.args.names c.args.a ∷ [] in
    (room_begun c.args.at fields (decimal (look s.size.now (c.args.a - 1))) (decimal (look s.count.now (c.args.a - 1)) ∷ []) room, c.requires.2)

pub put_numbers-requires : goal.put_numbers-requires
unfolding cut_line cut_record
put_numbers-requires c =
    let s = c.args.self in
    let room = rw (pick_same c.if-self-a-ne1.false) at c.requires.0 in
    room_ended _ (decimal (look s.size.now (c.args.a - 1))) (decimal (look s.count.now (c.args.a - 1)) ∷ []) c.put_site-next.ensures room

pub returns : goal.returns
unfolding cut_line cut_record
returns c = rw (pick_same c.if-self-a-ne1.false) (line_ended _ _ _ c.put_site-next.ensures c.put_numbers.ensures)
