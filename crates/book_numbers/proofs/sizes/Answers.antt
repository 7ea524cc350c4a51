-- `sizes` meets its contract: each turn writes one digit more.
use Rattle.std.proofs.Common.{refl, ◌∙◌, arith, length-set}
use Rattle.book_numbers.specs.Laws.{positive, sizes-begun, sizes_round, sizes-done}
use Rattle.book_numbers.proofs.sizes.Goals as goal

pub loop-i-init : goal.loop-i-init
loop-i-init c = (refl, sizes-begun _ _)

pub nonzero_div-list : goal.nonzero_div-list
nonzero_div-list c = positive 3 _ _ (omega arith) c.power-w.ensures

pub loop-i-preserved : goal.loop-i-preserved
loop-i-preserved c = let top = c.loop-i in (
  length-set top.list top.i _ ∙ top.invariant.0,
  sizes_round top.list c.args.k c.args.s top.i c.power-w.result (omega arith) (omega arith) c.power-w.ensures top.invariant.1,
)

pub returns : goal.returns
returns c = let top = c.loop-i in (sizes-done top.list c.args.k c.args.s top.i (omega arith) top.invariant.1, top.invariant.0)
