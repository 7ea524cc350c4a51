-- `answer_tree`: the table of names, the ends and the table of paths are those of the tree.
use Rattle.std.proofs.Common.{false, [], ◌++◌, length, drop, sym, ap, ◌∙◌, subst}
use Rattle.lists.specs.Numbers.{look}
use Rattle.model.specs.Booking.{answers}
use Rattle.theory_trees.specs.Leaves.{Outer}
use Rattle.theory_trees.proofs.Ends.{unmarked_ends_are_outer}
use Rattle.tree.specs.Offer.{links}
use Rattle.tree.specs.Steps.{told}
use Rattle.sheet_names.specs.Names.{ranges}
use Rattle.log_requests.specs.Requests.{lines, requests}
use Rattle.logs.proofs.answer_tree.Goals as goal

pub paths-rows-requires : goal.paths-rows-requires
paths-rows-requires c = c.args.tree.within

-- without marks each end has one link
pub answer_lines-requires : goal.answer_lines-requires
answer_lines-requires c =
    let t = c.args.tree in
    let ls = links t.one.now t.two.now in
    let ended = rw c.of.ensures at c.ends-ends.ensures in (
      record { within = t.within.within; table = c.paths-rows.ensures },
      c.index-table.ensures,
      c.requires.1,
      λ e. subst (Outer ls t.sites) (sym ended) (unmarked_ends_are_outer ls t.sites t.marks.now (told c.unmarked-outer.result c.unmarked-outer.ensures e)),
    )

pub returns : goal.returns
returns c =
    let a = c.args in
    let t = a.tree in
    let ls = links t.one.now t.two.now in
    let ended = rw c.of.ensures at c.ends-ends.ensures in
    c.answer_lines.ensures
    ∙ ap (λ ends. answers ls (look t.capacity.now) [] (requests false a.sheet.now (ranges a.starts.now a.stops.now 0 t.sites) ls ends a.log.now)
    ++ drop (length (lines a.log.now)) a.list.now) ended
