-- `put_part` meets its contract: as many bytes are written as there are places for.
use Rattle.std.proofs.Common.{◌<◌, length, refl, ◌∙◌, arith}
use Rattle.text_writers.specs.Writing.{sets_next, sets_fitting}
use Rattle.text_writers.proofs.put_part.Goals as goal

pub loop-i-preserved : goal.loop-i-preserved
loop-i-preserved c =
    let l : c.loop-i.i < length c.args.part.now = omega arith in
    rw c.loop-i.invariant (sets_next c.args.part.now c.args.buf.now c.args.at c.loop-i.i l)

pub returns : goal.returns
returns c = record {
  next = refl;
  stored = c.loop-i.invariant ∙ sets_fitting c.args.part.now c.args.buf.now c.args.at c.loop-i.i (omega arith);
}
