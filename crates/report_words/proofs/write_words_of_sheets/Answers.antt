-- `write_words_of_sheets` meets its contract: the cause alone, or behind the sheet and its line.
use Rattle.std.proofs.Common.{[], ◌∷◌, ◌++◌, length, ap, arith}
use Rattle.text_writers.specs.Writing.{then, room_after}
use Rattle.report_causes.specs.CauseWords.{cause}
use Rattle.report_words.specs.TwoSheetsLaws.{of_both, of_one, words_of_sheets_are_short}
use Rattle.report_words.proofs.write_words_of_sheets.Goals as goal

pub put_cause-requires : goal.put_cause-requires
put_cause-requires c =
    let a = c.args in
    omega (arith, ap length (of_both a.sheet a.number a.line (omega arith)), words_of_sheets_are_short a.sheet a.number a.line (omega arith) (omega arith))

pub returns-then-sheet-eq0 : goal.returns-then-sheet-eq0
returns-then-sheet-eq0 c = rw (of_both c.args.sheet c.args.number c.args.line (omega arith)) c.put_cause.ensures

pub put_cause-requires-2 : goal.put_cause-requires-2
put_cause-requires-2 c =
    let a = c.args in
    room_after c.put_sheet_place-at.ensures (cause a.number ++ (10 ∷ [])) (omega (
      arith,
      ap length (of_one a.sheet a.number a.line (omega arith)),
      words_of_sheets_are_short a.sheet a.number a.line (omega arith) (omega arith),
    ))

pub returns : goal.returns
returns c = rw (of_one c.args.sheet c.args.number c.args.line (omega arith)) (then c.put_sheet_place-at.ensures c.put_cause-2.ensures)
