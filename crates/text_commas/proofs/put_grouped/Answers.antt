-- `put_grouped` meets its contract: a number, and three digits behind each comma.
use Rattle.std.proofs.Common.{◌*◌, ◌/◌, arith}
use Rattle.text_writers.specs.Fields.{decimal}
use Rattle.text_commas.specs.Commas.{comma}
use Rattle.text_commas.specs.CommaLaws.{grouped_small, grouped_thousands, grouped_millions}
use Rattle.text_commas.proofs.Laws.{three_more, room_before_comma, room_after_comma}
use Rattle.text_commas.proofs.put_grouped.Goals as goal

pub put_number-requires : goal.put_number-requires
put_number-requires c = rw (grouped_small c.args.n (omega arith)) at c.requires

pub returns-then-n-lt1000 : goal.returns-then-n-lt1000
returns-then-n-lt1000 c = rw (grouped_small c.args.n (omega arith)) c.put_number.ensures

pub put_number-next-requires : goal.put_number-next-requires
put_number-next-requires c =
    let n = c.args.n in
    room_before_comma c.args.at (decimal (n / 1000)) n c.args.stop (rw (grouped_thousands n (omega arith) (omega arith)) at c.requires)

pub put_three-requires : goal.put_three-requires
put_three-requires c =
    let n = c.args.n in
    room_after_comma _ n c.args.stop c.put_number-next.ensures (rw (grouped_thousands n (omega arith) (omega arith)) at c.requires)

pub returns-then-n : goal.returns-then-n
returns-then-n c =
    let n = c.args.n in
    rw (grouped_thousands n (omega arith) (omega arith)) (three_more _ n c.args.stop c.put_number-next.ensures c.put_three.ensures)

pub put_number-next-requires-2 : goal.put_number-next-requires-2
put_number-next-requires-2 c =
    let n = c.args.n in
    let first = decimal (n / (1000 * 1000)) in
    let room = room_before_comma c.args.at (comma first (n / 1000)) n c.args.stop (rw (grouped_millions n (omega arith)) at c.requires) in
    room_before_comma c.args.at first (n / 1000) 44 room

pub put_three-last-requires : goal.put_three-last-requires
put_three-last-requires c =
    let n = c.args.n in
    let first = decimal (n / (1000 * 1000)) in
    let room = room_before_comma c.args.at (comma first (n / 1000)) n c.args.stop (rw (grouped_millions n (omega arith)) at c.requires) in
    room_after_comma _ (n / 1000) 44 c.put_number-next-2.ensures room

pub put_three-requires-2 : goal.put_three-requires-2
put_three-requires-2 c =
    let n = c.args.n in
    let v = three_more _ (n / 1000) 44 c.put_number-next-2.ensures c.put_three-last.ensures in
    room_after_comma _ n c.args.stop v (rw (grouped_millions n (omega arith)) at c.requires)

pub returns : goal.returns
returns c =
    let n = c.args.n in
    let first = decimal (n / (1000 * 1000)) in
    let v = three_more first (n / 1000) 44 c.put_number-next-2.ensures c.put_three-last.ensures in
    rw (grouped_millions n (omega arith)) (three_more (comma first (n / 1000)) n c.args.stop v c.put_three-2.ensures)
