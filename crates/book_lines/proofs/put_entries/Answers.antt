-- `put_entries` meets its contract: each turn writes one line more, of at most 81.
use Rattle.std.proofs.Common.{◌≡◌, ◌-◌, ◌^◌, ap, ◌∙◌, arith, length}
use Rattle.text_writers.specs.Writing.{nothing, then}
use Rattle.tree.specs.Offer.{links}
use Rattle.book_lines.specs.Laws.{lines_none, lines_round, few_lists}
use Rattle.book_lines.proofs.put_entries.Goals as goal

pub power-count-requires : goal.power-count-requires
power-count-requires c = omega (arith, c.requires.most, c.requires.firsts)

pub loop-s-init : goal.loop-s-init
loop-s-init c = (rw (lines_none c.args.n (links c.args.one.now c.args.two.now)) (nothing c.args.buf.now 0), omega arith)

pub put_entry-next-requires : goal.put_entry-next-requires
put_entry-next-requires c =
    (omega (arith, c.loop-s.invariant.1, c.power-count.ensures, few_lists (length c.args.one.now) (omega (arith, c.requires.most, c.requires.firsts))), c.requires)

pub loop-s-preserved : goal.loop-s-preserved
loop-s-preserved c = (
  rw (lines_round c.args.n (links c.args.one.now c.args.two.now) c.loop-s.s) at (then c.loop-s.invariant.0 c.put_entry-next.ensures.wrote),
  omega (arith, c.put_entry-next.ensures.short, c.loop-s.invariant.1),
)

pub returns : goal.returns
returns c =
    let all : c.loop-s.s ≡ 3 ^ (c.args.n - 1) = omega arith ∙ c.power-count.ensures ∙ ap (λ k. 3 ^ k) (omega (arith, c.requires.firsts)) in
    record {
      wrote = rw all at c.loop-s.invariant.0;
      short = omega (arith, c.loop-s.invariant.1, c.power-count.ensures, few_lists (length c.args.one.now) (omega (arith, c.requires.most, c.requires.firsts)));
    }
