-- `in_block` meets its contract: it is told whether a place before i has the number.
use Rattle.std.proofs.Common.{◌≡◌, ap, refl, ◌∙◌, arith}
use Rattle.lists.specs.Numbers.{sum}
use Rattle.log_pairs.specs.Arrays.{BLOCK}
use Rattle.log_pairs.proofs.Among.{among, hit, miss}
use Rattle.log_pairs.proofs.in_block.Goals as goal
use Rattle.log_pairs.proofs.in_block.Goals.{then-pairs-at, else-pairs-at}

pub loop-i-init : goal.loop-i-init
unfolding sum
loop-i-init c = (omega arith, refl)

pub loop-i-preserved : goal.loop-i-preserved
loop-i-preserved c =
    let a = c.args in
    let f = a.pairs.now in (
      omega arith,
      elim c.if-pairs-at.branch [
        | then-pairs-at w ↦ w.seen-is ∙ hit f a.key a.at c.loop-i.i w.if-pairs-at.true
        | else-pairs-at w ↦ w.seen-is ∙ c.loop-i.invariant.1 ∙ miss f a.key a.at c.loop-i.i w.if-pairs-at.false
      ],
    )

pub returns : goal.returns
returns c =
    let e : c.loop-i.i ≡ BLOCK = omega arith in
    c.loop-i.invariant.1 ∙ ap (among c.args.pairs.now c.args.key c.args.at) e
