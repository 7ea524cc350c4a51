-- `read_into`: the length first, then the lines.
use borrow.Author.Tests.{le-leb, lt-leb}
use Rattle.sheet.specs.Sheet.{read_as}
use Rattle.sheet.specs.Reading.{reading}
use Rattle.sheet.proofs.read_into.Goals as goal

pub returns-then-sheet-lt1 : goal.returns-then-sheet-lt1
unfolding reading read_as
returns-then-sheet-lt1 c = rw (lt-leb _ _ c.if-sheet-lt1.true)

pub returns-then-sheet-most : goal.returns-then-sheet-most
unfolding reading read_as
returns-then-sheet-most c = rw (le-leb _ _ c.if-sheet-lt1.false, lt-leb _ _ c.if-sheet-most.true)

pub returns : goal.returns
unfolding read_as
returns c = rw (le-leb _ _ c.if-sheet-lt1.false, le-leb _ _ c.if-sheet-most.false) c.read_lines.ensures
