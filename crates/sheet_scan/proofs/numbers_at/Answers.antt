-- The byte behind a number tells whether another follows.
use Rattle.std.proofs.Common.{refl, arith}
use Rattle.sheet_scan.specs.FoundLines.{one_is_found, two_are_found}
use Rattle.sheet_scan.proofs.numbers_at.Goals as goal

pub returns-then-sheet-end-eq10 : goal.returns-then-sheet-end-eq10
returns-then-sheet-end-eq10 c =
    let a = c.args in
    rw c.one_number.ensures
    (one_is_found a.edition a.sheet.now a.from _ _ c.in_ok-end.ensures a.edition.sizing refl c.if-sheet-end-eq10.true)

-- That byte 10 ends the line is left to `omega`, which finds it among the facts.
pub returns : goal.returns
returns c =
    let a = c.args in
    two_are_found a.edition a.sheet.now a.from _ _ c.in_ok-end.ensures _ _ c.if-sheet-end-ne9.false c.in_ok-last.ensures (omega arith)
