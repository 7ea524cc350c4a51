-- `choose` meets its contract: each turn takes or leaves one link more.
use Rattle.std.proofs.Common.{refl, ap, ◌∙◌, arith}
use Rattle.theory_book.specs.Numbered.{chosen}
use Rattle.book_numbers.specs.Held.{held}
use Rattle.book_numbers.specs.Laws.{positive, held_none, choose_round, choose_done}
use Rattle.book_numbers.proofs.choose.Goals as goal

pub loop-i-init : goal.loop-i-init
loop-i-init c = let e = c.none-c.ensures in (rw (held_none c.none-c.result e.0) refl, omega (arith, e.0), e.1)

pub keep-c-requires : goal.keep-c-requires
keep-c-requires c = let i = c.loop-i.invariant in
    (omega (arith, c.all_links-all.ensures.1), positive 2 _ _ (omega arith) c.power-w.ensures, i.2)

pub loop-i-preserved : goal.loop-i-preserved
loop-i-preserved c =
    let all = c.all_links-all in
    let l = all.result in
    let room = all.ensures.2 in
    let k = c.keep-c.ensures in (
      rw k.0 (choose_round l.one l.two l.count (omega (arith, all.ensures.1)) (omega (arith, all.ensures.1)) (held c.loop-i.c) c.args.m
          c.loop-i.i c.power-w.result (omega arith) c.power-w.ensures c.loop-i.invariant.0),
      omega (arith, k.1, c.loop-i.invariant.1),
      k.2,
    )

pub returns : goal.returns
returns c =
    let all = c.all_links-all in
    let l = all.result in
    let room = all.ensures.2 in (
      choose_done l.one l.two l.count (omega (arith, all.ensures.1)) (omega (arith, all.ensures.1)) (held c.loop-i.c) c.args.m
          c.loop-i.i (omega arith) c.loop-i.invariant.0 ∙ ap (λ l. chosen l c.args.m) all.ensures.0,
      omega (arith, all.ensures.1, c.loop-i.invariant.1),
      c.loop-i.invariant.2,
    )
