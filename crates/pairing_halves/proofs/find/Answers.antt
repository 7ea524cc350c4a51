-- `find`: each turn passes one entry.
use Rattle.std.proofs.Common.{◌≡◌, arith}
use Rattle.pairing_halves.proofs.Finding.{finding_next, finding_cut, finding_end}
use Rattle.pairing_halves.proofs.find.Goals as goal

pub returns-then-left-amount : goal.returns-then-left-amount
returns-then-left-amount c = finding_cut c.loop-at.invariant c.loop-at-test.true c.if-left-amount.true

pub loop-at-preserved : goal.loop-at-preserved
loop-at-preserved c = finding_next c.loop-at.invariant c.loop-at-test.true c.if-left-amount.false

pub returns : goal.returns
returns c =
    let all : c.loop-at.at ≡ c.args.to = omega arith in
    finding_end (rw all at c.loop-at.invariant) (omega arith)
