-- `put_site_lines` meets its contract: a turn writes the line of one site more.
use Rattle.std.proofs.Common.{◌+◌, arith}
use Rattle.model.specs.Flows.{sites}
use Rattle.report.specs.Lent.{site_of}
use Rattle.report.proofs.Writing.{lines_none, room_for, one_more, all-from}
use Rattle.report.proofs.SiteLists.put_site_lines.Goals as goal

pub loop-i-init : goal.loop-i-init
loop-i-init c = lines_none c.args.buf.now c.args.at (site_of c.args.names c.args.self) (sites c.args.self.many)

pub put_site_line-next-requires : goal.put_site_line-next-requires
put_site_line-next-requires c =
    let x = c.loop-i.i + 1 in
    let room = room_for (site_of c.args.names c.args.self) 1 c.args.self.many c.loop-i.i x (omega arith) (omega arith) c.requires.0 c.loop-i.invariant in
    (room, (omega arith, omega arith), c.requires.1 x (omega arith) (omega arith), c.requires.2)

pub loop-i-preserved : goal.loop-i-preserved
loop-i-preserved c =
    one_more (site_of c.args.names c.args.self) 1 c.args.self.many c.loop-i.i (c.loop-i.i + 1) (omega arith) (omega arith) c.loop-i.invariant
    c.put_site_line-next.ensures

pub returns : goal.returns
returns c = all-from _ 1 c.args.self.many c.loop-i.i (omega arith) c.loop-i.invariant
