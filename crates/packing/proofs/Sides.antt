-- The numbers that tell the two steps of one region by itself, taken apart, give what the steps come to, for all sheets, names,
-- numbers and lists. Nothing is lost: numbers are at most 19, a line at fault is one of the sheet, and sizes, counts and sums are within the limits.
use Rattle.std.specs.Prelude.{List, ℕ, ◌*◌, ◌≤◌, Ok, Err}
use Rattle.std.proofs.Common.{arith}
use Rattle.model.specs.Limits.{BYTES, LINKS, SIZE}
use Rattle.model.specs.Edition.{editions}
use Rattle.sides.specs.Outcome.{First, Outcome, first_shown, answered}
use Rattle.sides.specs.Small.{FirstSmall, SideSmall}
use Rattle.sides.proofs.Small.{the_first_step_tells_small_numbers, the_second_step_tells_small_numbers}
use Rattle.packing.specs.Packed.{unpacked_number, unpacked_line, unpacked_length}
use Rattle.packing.specs.PackedSides.{packed_first, packed_side, unpacked_count, unpacked_sum}
use Rattle.packing.specs.Sides.{TellsFirst, TellsSide}

a_small_first_step_is_told : (o : First) → FirstSmall o → TellsFirst (packed_first o) o
unfolding packed_first unpacked_number unpacked_line unpacked_length
a_small_first_step_is_told (Ok size) b =
    let small : size ≤ SIZE = b.size_small in
    record { told-number = omega arith; told_line = omega arith; told-size = omega arith }
a_small_first_step_is_told (Err r) b =
    let few : r.number ≤ 19 = b.number_small in
    let near : r.line ≤ BYTES = b.line_small in
    record { told-number = omega arith; told_line = omega arith; told-size = omega arith }

a_small_second_step_is_told : (o : Outcome) → SideSmall o → TellsSide (packed_side o) o
unfolding packed_side unpacked_number unpacked_line unpacked_count unpacked_sum
a_small_second_step_is_told (Ok a) b =
    let few : a.count ≤ LINKS = b.count_small in
    let small : a.sum ≤ 2 * (LINKS * SIZE) = b.sum_small in
    (omega arith, omega arith, omega arith)
a_small_second_step_is_told (Err r) b =
    let few : r.number ≤ 19 = b.number_small in
    let near : r.line ≤ BYTES = b.line_small in
    (omega arith, omega arith)

module _ (s name name' : List ℕ) where
  -- the number returned, taken apart as the C header does, is the number, the line and the size
  pub the_packed_number_tells_the_first_step : TellsFirst (packed_first (first_shown editions s name name')) (first_shown editions s name name')
  the_packed_number_tells_the_first_step =
      a_small_first_step_is_told (first_shown editions s name name') (the_first_step_tells_small_numbers s name name')

  -- and so for the second step
  pub the_packed_number_tells_the_answer : (told : ℕ) (l : List ℕ) → let o = (answered editions s name name' told l).outcome in TellsSide (packed_side o) o
  the_packed_number_tells_the_answer told l =
      a_small_second_step_is_told (answered editions s name name' told l).outcome (the_second_step_tells_small_numbers s name name' told l)
