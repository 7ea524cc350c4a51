-- There is a line just where the offset is below the sheet's length: `has_line` is that test.
use Rattle.std.proofs.Common.{refl}
use Rattle.text_lines.specs.Lines.{has_line}
use Rattle.text_lines.proofs.LineReader.has_line.Goals as goal

pub returns : goal.returns
unfolding has_line
returns c = refl
