-- `put_sheet_place` meets its contract: which sheet, and a line of it or none.
use Rattle.std.proofs.Common.{◌≡◌, ◌≢◌, [], ◌∷◌, ◌++◌, ℕ, ◌^◌, ◌<◌, length, ap, arith}
use Rattle.model.specs.Text.{bytes}
use Rattle.text_writers.specs.Fields.{decimal}
use Rattle.text_writers.specs.Wrote.{Room}
use Rattle.text_writers.specs.Writing.{then, room_front, room_after}
use Rattle.report_causes.specs.CauseWords.{place}
use Rattle.report_words.specs.TwoSheetsLaws.{no_line_of_it, a_line_of_it, sheet-place-length}
use Rattle.report_words.proofs.put_sheet_place.Goals as goal

room_whole : (x l : ℕ) → l ≡ 0 → x < 2 ^ 64 → l < 2 ^ 64 → Room 0 (bytes "sheet " ++ ((decimal x ++ (58 ∷ [])) ++ (32 ∷ [])))
room_whole x l e h k = omega (arith, ap length (no_line_of_it x l e), sheet-place-length x l h k)

room-lined : (x l : ℕ) → l ≢ 0 → x < 2 ^ 64 → l < 2 ^ 64 → Room 0 (bytes "sheet " ++ ((decimal x ++ (44 ∷ [])) ++ ((32 ∷ []) ++ place l)))
room-lined x l d h k = omega (arith, ap length (a_line_of_it x l d), sheet-place-length x l h k)

pub put_number-next-requires : goal.put_number-next-requires
put_number-next-requires c =
    let x = c.args.sheet in
    room_front _ (decimal x ++ (58 ∷ [])) (32 ∷ [])
    (room_after c.put_part-word.ensures ((decimal x ++ (58 ∷ [])) ++ (32 ∷ [])) (room_whole x c.args.line c.if-line-eq0.true (omega arith) (omega arith)))

pub put_part-requires : goal.put_part-requires
put_part-requires c =
    let x = c.args.sheet in
    room_after c.put_number-next.ensures (32 ∷ [])
    (room_after c.put_part-word.ensures ((decimal x ++ (58 ∷ [])) ++ (32 ∷ [])) (room_whole x c.args.line c.if-line-eq0.true (omega arith) (omega arith)))

pub returns-then-line-eq0 : goal.returns-then-line-eq0
returns-then-line-eq0 c =
    rw (no_line_of_it c.args.sheet c.args.line c.if-line-eq0.true) (then c.put_part-word.ensures (then c.put_number-next.ensures c.put_part.ensures))

pub put_number-next-requires-2 : goal.put_number-next-requires-2
put_number-next-requires-2 c =
    let x = c.args.sheet in
    let rest = (32 ∷ []) ++ place c.args.line in
    room_front _ (decimal x ++ (44 ∷ [])) rest
    (room_after c.put_part-word.ensures ((decimal x ++ (44 ∷ [])) ++ rest) (room-lined x c.args.line c.if-line-eq0.false (omega arith) (omega arith)))

pub put_part-at-requires : goal.put_part-at-requires
put_part-at-requires c =
    let x = c.args.sheet in
    let rest = (32 ∷ []) ++ place c.args.line in
    room_front _ (32 ∷ []) (place c.args.line) (room_after c.put_number-next-2.ensures rest
    (room_after c.put_part-word.ensures ((decimal x ++ (44 ∷ [])) ++ rest) (room-lined x c.args.line c.if-line-eq0.false (omega arith) (omega arith))))

pub put_place-requires : goal.put_place-requires
put_place-requires c =
    let x = c.args.sheet in
    let rest = (32 ∷ []) ++ place c.args.line in
    room_after c.put_part-at.ensures (place c.args.line) (room_after c.put_number-next-2.ensures rest
    (room_after c.put_part-word.ensures ((decimal x ++ (44 ∷ [])) ++ rest) (room-lined x c.args.line c.if-line-eq0.false (omega arith) (omega arith))))

pub returns : goal.returns
returns c =
    rw (a_line_of_it c.args.sheet c.args.line c.if-line-eq0.false)
    (then c.put_part-word.ensures (then c.put_number-next-2.ensures (then c.put_part-at.ensures c.put_place.ensures)))
