-- The invariant: the bytes before place i are digits, the value up to any later place goes on from theirs, and it has no more digits than they are.
use Rattle.std.proofs.Common.{◌≡◌, ℕ, ◌-◌, ◌^◌, ◌≤◌, ◌<◌, length}
use Rattle.std.proofs.Math.Seq.{slice}
use Rattle.text_fields.specs.Fields.{is_digit, value_from, value}
use Rattle.sheet_scan.specs.Scan.{Run}
use Rattle.sheet_scan.proofs.digits_at.Given as goal

abbrev pub invariant-loop-i : goal.invariant-loop-i
invariant-loop-i l = record {
  few : l.value < 10 ^ (l.i - l.from);
  run : Run is_digit l.sheet l.from l.i;
  goes-on : (to : ℕ) → l.i ≤ to → to ≤ length l.sheet → value (slice l.from to l.sheet) ≡ value_from l.value (slice l.i to l.sheet);
}
