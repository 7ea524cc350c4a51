-- The invariant: the first i bytes are letters and digits.
use Rattle.std.proofs.Common.{◌+◌}
use Rattle.text_fields.specs.Fields.{is_letter_or_digit}
use Rattle.sheet_scan.specs.Scan.{Run}
use Rattle.sheet_scan.proofs.run_end.Given as goal

abbrev pub invariant-loop-i : goal.invariant-loop-i
invariant-loop-i l = Run is_letter_or_digit l.sheet l.from (l.from + l.i)
