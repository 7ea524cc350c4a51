-- `index`: at first there is no site, then one more in each turn.
use Rattle.std.proofs.Common.{arith}
use Rattle.sheet_names.specs.Names.{ranges}
use Rattle.sheet_names.specs.TableLaws.{lies_there, no_sites, next-entered}
use Rattle.sheet_names.proofs.index.Goals as goal

pub loop-i-init : goal.loop-i-init
unfolding ranges
loop-i-init c = no_sites c.args.sheet.now

pub enter-requires : goal.enter-requires
enter-requires c =
    let a = c.args in
    let lies = lies_there a.starts.now a.ends.now a.sites c.requires.1 c.loop-i.i (omega arith) in
    (omega arith, lies.0, lies.1)

pub loop-i-preserved : goal.loop-i-preserved
loop-i-preserved c =
    let a = c.args in
    rw c.enter.ensures
    (next-entered a.sheet.now a.starts.now a.ends.now c.loop-i.table a.sites c.loop-i.i c.requires.0 (omega arith) c.requires.1 c.loop-i.invariant)
