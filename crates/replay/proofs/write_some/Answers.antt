-- Each answer and its end take at most 21 bytes.
use Rattle.std.proofs.Common.{rules, ◌^◌, ◌<◌, arith, slice_index_or}
use Rattle.replay.proofs.Lines.{number_is_short}
use Rattle.replay.proofs.write_some.Goals as goal

pub put_number-length-requires : goal.put_number-length-requires
put_number-length-requires g c =
    let fits : slice_index_or c.args.answers.now c.loop-i.i 0 < 2 ^ 64 = search rules in
    omega (arith, c.requires, c.loop-i.invariant, number_is_short _ fits)

pub loop-i-preserved : goal.loop-i-preserved
loop-i-preserved g c =
    let fits : slice_index_or c.args.answers.now c.loop-i.i 0 < 2 ^ 64 = search rules in
    omega (arith, c.loop-i.invariant, c.put_number-length.ensures.next, number_is_short _ fits)
