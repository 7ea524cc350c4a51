-- `sets` meets its contract: each turn puts one site more into the set of its label.
use Rattle.std.proofs.Common.{◌≡◌, ◌+◌, refl, arith}
use Rattle.std.proofs.Math.ListN.{length-set}
use Rattle.cuts_groups.proofs.Words.{words-none, words-next}
use Rattle.cuts_groups.proofs.sets.Goals as goal

pub loop-i-init : goal.loop-i-init
loop-i-init c = rw c.requires.2 (refl, words-none c.args.labels.now)

pub loop-i-preserved : goal.loop-i-preserved
loop-i-preserved c =
    let long = c.loop-i.invariant.0 in
    rw c.from.ensures (
      simp length-set long,
      λ l k. words-next c.loop-i.words c.args.labels.now c.loop-i.i (omega arith) (c.requires.1 (c.loop-i.i + 1)) long l k (c.loop-i.invariant.1 l k),
    )

pub returns : goal.returns
returns c =
    let all : c.loop-i.i ≡ c.args.n = omega arith in
    rw all at c.loop-i.invariant.1
