-- `put_sized` meets its contract: by the total, or that there is none.
use Rattle.std.proofs.Common.{sym, arith}
use Rattle.text_writers.specs.Writing.{nothing}
use Rattle.tree.specs.Offer.{links}
use Rattle.book_lines.specs.Laws.{no_tree_has_no_line, a_tree_has_its_line}
use Rattle.book_lines.proofs.put_sized.Goals as goal

pub put_line-requires : goal.put_line-requires
put_line-requires c =
    let few = c.requires.1 in (
      c.requires.0,
      omega (arith, few.least, few.firsts),
      omega (arith, few.most, few.firsts),
      omega (arith, few.seconds, few.firsts),
      omega (arith, few.sized, few.firsts),
    )

pub returns-in-None : goal.returns-in-None
returns-in-None c =
    let a = c.args in
    let none = no_tree_has_no_line a.n (links a.one.now a.two.now) a.sizes.now (sym c.in-None.ensures) in
    record { wrote = rw none (nothing a.buf.now a.at); short = omega arith }

pub returns-in-Some : goal.returns-in-Some
returns-in-Some c =
    let a = c.args in
    let put = c.put_line.ensures in
    let its = a_tree_has_its_line a.n (links a.one.now a.two.now) a.sizes.now _ (sym c.in-Some.ensures) in
    record { wrote = rw its put.wrote; short = put.short }
