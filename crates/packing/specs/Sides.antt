-- The numbers that tell the two steps of one region by itself, taken apart, give what the steps come to, for all sheets, names,
-- numbers and lists. Nothing is lost: numbers are at most 19, a line at fault is one of the sheet, and sizes, counts and sums are within the limits.
use Rattle.std.specs.Prelude.{◌≡◌, ℕ, Ok, Err}
use Rattle.sides.specs.Outcome.{First, Outcome, number, line_of, size_of}
use Rattle.packing.specs.Packed.{unpacked_number, unpacked_line, unpacked_length}
use Rattle.packing.specs.PackedSides.{unpacked_count, unpacked_sum}

-- a value tells what a first step comes to
pub record TellsFirst (value : ℕ) (o : First) : Type 0 where
  pub told-number : unpacked_number value ≡ number o
  pub told_line : unpacked_line value ≡ line_of o
  pub told-size : unpacked_length value ≡ size_of o

-- a value tells what a second step comes to: number 0, the count and the sum where it is answered; its number and line where it is refused
abbrev pub TellsSide : ℕ → Outcome → Type 0
TellsSide value (Ok a) = (unpacked_number value ≡ 0) × (unpacked_count value ≡ a.count) × (unpacked_sum value ≡ a.sum)
TellsSide value (Err r) = (unpacked_number value ≡ r.number) × (unpacked_line value ≡ r.line)
