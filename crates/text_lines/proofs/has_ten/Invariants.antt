-- The invariant: where none was found, none of the bytes so far is 10.
use Rattle.std.proofs.Common.{◌≡◌, false}
use Rattle.text_lines.specs.LineLaws.{NoTen}
use Rattle.text_lines.proofs.has_ten.Given as goal

abbrev pub invariant-loop-b : goal.invariant-loop-b
invariant-loop-b l = l.any ≡ false → NoTen l.sheet l.at l.b-index
