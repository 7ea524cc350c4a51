-- `put_place` meets its contract: the words for no line, or the number of the line.
use Rattle.std.proofs.Common.{[], ◌∷◌, ◌++◌, arith}
use Rattle.model.specs.Text.{bytes}
use Rattle.text_writers.specs.Fields.{decimal}
use Rattle.text_writers.specs.Writing.{then, room_front, room_after}
use Rattle.report_causes.proofs.Laws.{no_line, some-line}
use Rattle.report_causes.proofs.put_place.Goals as goal

pub put_part-requires : goal.put_part-requires
put_part-requires c = rw (no_line c.args.line (omega arith)) at c.requires

pub returns-then-line-eq0 : goal.returns-then-line-eq0
returns-then-line-eq0 c = rw (no_line c.args.line (omega arith)) c.put_part.ensures

pub put_part-word-requires : goal.put_part-word-requires
put_part-word-requires c =
    let l = c.args.line in
    room_front c.args.at (bytes "line ") ((decimal l ++ (58 ∷ [])) ++ (32 ∷ [])) (rw (some-line l (λ e. omega (arith, e))) at c.requires)

pub put_number-next-requires : goal.put_number-next-requires
put_number-next-requires c =
    let l = c.args.line in
    let room = rw (some-line l (λ e. omega (arith, e))) at c.requires in
    room_front _ (decimal l ++ (58 ∷ [])) (32 ∷ []) (room_after c.put_part-word.ensures ((decimal l ++ (58 ∷ [])) ++ (32 ∷ [])) room)

pub put_part-requires-2 : goal.put_part-requires-2
put_part-requires-2 c =
    let l = c.args.line in
    let room = rw (some-line l (λ e. omega (arith, e))) at c.requires in
    room_after c.put_number-next.ensures (32 ∷ []) (room_after c.put_part-word.ensures ((decimal l ++ (58 ∷ [])) ++ (32 ∷ [])) room)

pub returns : goal.returns
returns c = rw (some-line c.args.line (λ e. omega (arith, e))) (then c.put_part-word.ensures (then c.put_number-next.ensures c.put_part-2.ensures))
