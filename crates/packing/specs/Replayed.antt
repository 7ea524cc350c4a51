-- The number that tells a replay, taken apart, gives the outcome's text, number, line and count, for every sheet, log and list.
-- Nothing is lost: a text is 1 or 2, numbers are at most 17, a line at fault is one of the sheet, and a log has at most LOGLINES lines.
use Rattle.std.specs.Prelude.{◌≡◌, ℕ, ◌≤◌}
use Rattle.model.specs.Limits.{BYTES, LOGLINES}
use Rattle.logs.specs.Outcome.{Outcome, text_of, number, line_of, count_of}
use Rattle.packing.specs.Packed.{unpacked_text, unpacked_number, unpacked_line, unpacked_length}

-- how large the numbers of an outcome are
pub record Bounded (o : Outcome) : Type 0 where
  pub text_small : text_of o ≤ 2
  pub number_small : number o ≤ 19
  pub line_small : line_of o ≤ BYTES
  pub count_small : count_of o ≤ LOGLINES

-- a value tells an outcome
pub record TellsReplay (value : ℕ) (o : Outcome) : Type 0 where
  pub told_text : unpacked_text value ≡ text_of o
  pub told-number : unpacked_number value ≡ number o
  pub told_line : unpacked_line value ≡ line_of o
  pub told-count : unpacked_length value ≡ count_of o
