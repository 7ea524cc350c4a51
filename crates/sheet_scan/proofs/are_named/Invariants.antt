-- The invariant: where none failed, the first i bytes pass.
use Rattle.std.proofs.Common.{true, ◌≡◌, ◌+◌}
use Rattle.text_fields.specs.Fields.{is_letter_or_digit}
use Rattle.sheet_scan.specs.Scan.{Run}
use Rattle.sheet_scan.proofs.are_named.Given as goal

abbrev pub invariant-loop-i : goal.invariant-loop-i
invariant-loop-i l = l.good ≡ true → Run is_letter_or_digit l.sheet l.at (l.at + l.i)
