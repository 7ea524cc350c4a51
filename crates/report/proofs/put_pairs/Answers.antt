-- `put_pairs` meets its contract: a turn writes the line of one pair more.
use Rattle.std.proofs.Common.{refl, arith}
use Rattle.report.specs.Report.{pair_line}
use Rattle.report.specs.Shown.{no_pair_lem}
use Rattle.report.specs.Lent.{name_in}
use Rattle.report.proofs.Writing.{lines_none, line_room, line-next, lines-all}
use Rattle.report.proofs.put_pairs.Goals as goal

pub loop-pair-init : goal.loop-pair-init
loop-pair-init c = lines_none c.args.buf.now c.args.at (pair_line (name_in c.args.names)) c.args.pairs.now

pub put_pair-next-requires : goal.put_pair-next-requires
put_pair-next-requires c =
    let i = c.loop-pair.pair-index in
    let line = pair_line (name_in c.args.names) in
    (line_room line c.args.pairs.now no_pair_lem i (omega arith) refl c.requires.0 c.loop-pair.invariant, c.requires.1.named i (omega arith))

pub loop-pair-preserved : goal.loop-pair-preserved
loop-pair-preserved c =
    let line = pair_line (name_in c.args.names) in
    line-next line c.args.pairs.now no_pair_lem c.loop-pair.pair-index (omega arith) refl c.loop-pair.invariant c.put_pair-next.ensures

pub returns : goal.returns
returns c = lines-all _ c.args.pairs.now _ (omega arith) c.loop-pair.invariant
