-- `put_lines` meets its contract: a turn writes the line of one link more.
use Rattle.std.proofs.Common.{length, arith}
use Rattle.lists.specs.Numbers.{upfrom}
use Rattle.report.specs.Lent.{link_of}
use Rattle.report.proofs.Writing.{lines_none, room_for, one_more, all-from}
use Rattle.report.proofs.LinkLists.put_lines.Goals as goal

pub loop-j-init : goal.loop-j-init
loop-j-init c = lines_none c.args.buf.now c.args.at (link_of c.args.names c.args.self) (upfrom 0 (length c.args.self.one.now))

pub put_line-next-requires : goal.put_line-next-requires
put_line-next-requires c =
    let line = link_of c.args.names c.args.self in
    (room_for line 0 (length c.args.self.one.now) c.loop-j.j c.loop-j.j (omega arith) (omega arith) c.requires.0 c.loop-j.invariant, c.requires.1, omega arith)

pub loop-j-preserved : goal.loop-j-preserved
loop-j-preserved c =
    let line = link_of c.args.names c.args.self in
    one_more line 0 (length c.args.self.one.now) c.loop-j.j c.loop-j.j (omega arith) (omega arith) c.loop-j.invariant c.put_line-next.ensures

pub returns : goal.returns
returns c = all-from _ 0 (length c.args.self.one.now) c.loop-j.j (omega arith) c.loop-j.invariant
