-- The number that tells a replay, taken apart, gives the outcome's text, number, line and count, for every sheet, log and list.
use Rattle.std.specs.Prelude.{List, ℕ, ◌≤◌, Ok, Err}
use Rattle.std.proofs.Common.{arith}
use Rattle.model.specs.Limits.{BYTES, LOGLINES}
use Rattle.model.specs.Edition.{editions}
use Rattle.sheet.proofs.Editions.{a_line_at_fault_is_within_the_limit}
use Rattle.logs.specs.Outcome.{Outcome, replayed}
use Rattle.logs.specs.Told.{ReplayTold, faulty_sheet, long-log, few_places, all-answered}
use Rattle.logs.proofs.Told.{the_replay_is_told_or_its_cause}
use Rattle.packing.specs.Packed.{packed_replay, unpacked_text, unpacked_number, unpacked_line, unpacked_length}
use Rattle.packing.specs.Replayed.{Bounded, TellsReplay}

a_bounded_replay_is_told : (o : Outcome) → Bounded o → TellsReplay (packed_replay o) o
unfolding packed_replay unpacked_text unpacked_number unpacked_line unpacked_length
a_bounded_replay_is_told (Ok n) b =
    let small : n ≤ LOGLINES = b.count_small in
    record { told_text = omega arith; told-number = omega arith; told_line = omega arith; told-count = omega arith }
a_bounded_replay_is_told (Err r) b =
    let two : r.text ≤ 2 = b.text_small in
    let few : r.number ≤ 19 = b.number_small in
    let near : r.line ≤ BYTES = b.line_small in
    record { told_text = omega arith; told-number = omega arith; told_line = omega arith; told-count = omega arith }

module _ (s log l : List ℕ) where
  bounded : ReplayTold editions s log l → Bounded (replayed editions s log l).outcome
  bounded (faulty_sheet k line c n r) =
      let near = a_line_at_fault_is_within_the_limit s c in
      record {
        text_small = omega (arith, r.text-told);
        number_small = omega (arith, r.number-told, n.known);
        line_small = omega (arith, r.line-told);
        count_small = omega (arith, r.count-told);
      }
  bounded (long-log net a h r) = record {
    text_small = omega (arith, r.text-told);
    number_small = omega (arith, r.number-told);
    line_small = omega (arith, r.line-told);
    count_small = omega (arith, r.count-told);
  }
  bounded (few_places net a short h r) = record {
    text_small = omega (arith, r.text-told);
    number_small = omega (arith, r.number-told);
    line_small = omega (arith, r.line-told);
    count_small = omega (arith, r.count-told);
  }
  bounded (all-answered net a short h r) = record {
    text_small = omega (arith, r.text-told);
    number_small = omega (arith, r.number-told);
    line_small = omega (arith, r.line-told);
    count_small = omega (arith, r.count-told, short.few);
  }

  -- the number returned, taken apart as the C header does, is the outcome's text, number, line and count
  pub the_packed_number_tells_the_replay : TellsReplay (packed_replay (replayed editions s log l).outcome) (replayed editions s log l).outcome
  the_packed_number_tells_the_replay =
      a_bounded_replay_is_told (replayed editions s log l).outcome (bounded (the_replay_is_told_or_its_cause editions s log l))
