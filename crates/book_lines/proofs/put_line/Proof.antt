-- `put_line` meets its contract: the links, the sizes and the total, each with the byte that ends it.
use mathlib.Core.Path.{◌∙◌}
use native.Mathlib.Omega.{arith}
use borrow.Author.Rules.{rules}
use Rattle.text_writers.specs.Writing.{then, same_size}
use Rattle.tree.specs.Offer.{links}
use Rattle.book_lines.specs.Laws.{number_short, number_room, line_ended}
use Rattle.book_lines.proofs.put_line.Statement.{statement}
use Rattle.book_lines.proofs.put_line.Tie as tie

put-sizes-requires : tie.Need-put_sizes-totalled-requires
put-sizes-requires c κs =
    let s = c.before.before.before.before.before.before.before.before.before in
    (omega (arith, s.requires.0, c.before.before.before.put_links-sized.ensures.short), omega (arith, s.requires), omega (arith, s.requires))

put-number-requires : tie.Need-put_number-requires
put-number-requires c κs =
    let joined = c.before.before.before.before.before.before.before in
    let s = joined.before.before.before.before.before.before in
    number_room _ _ _ (omega arith) (omega (arith, s.requires.0, joined.put_links-sized.ensures.short, c.before.before.before.put_sizes-totalled.ensures.short))

same_length : tie.Need-shape_of-buf
same_length c =
    let sized = c.before.before.before.before.before.before in
    same_size c.before.before.put_number.ensures ∙ same_size sized.put_sizes-totalled.ensures.wrote
    ∙ same_size sized.before.before.before.before.put_links-sized.ensures.wrote

returns : tie.Need-returns
returns c =
    let done = c.before.before.before.before.before.before in
    let a = done.before.before.before.before.before.before.before.before.before.before.args in
    let joined = done.before.before.before.before.put_links-sized.ensures in
    let sized = done.put_sizes-totalled.ensures in
    let ended = c.before.before.put_number.ensures in
    record {
      wrote = rw (line_ended (links a.one.now a.two.now) a.sizes.now a.halves) at (then (then joined.wrote sized.wrote) ended);
      short = omega (arith, joined.short, sized.short, ended.next, number_short a.halves 10 (omega arith));
    }

pub put_line_spec : {M : Type 1} → statement M
put_line_spec = tie.close (tie.spec (λ c κs. search rules) put-sizes-requires put-number-requires same_length returns)
