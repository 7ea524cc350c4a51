-- `report_on` meets its contract: a refusal of the reading is passed on, and the lists of an accepted sheet are its network taken apart.
use Rattle.std.proofs.Common.{sym, ap, ◌∙◌}
use Rattle.planner.specs.Outcome.{reporter}
use Rattle.planner.specs.Taken.{accepted_is_listed, refused_is_told, the_network_is_a_marked_tree, the_lists_are_taken_apart, the_marks_are_taken_apart}
use Rattle.planner.proofs.report_on.Goals as goal

pub tree_of-requires : goal.tree_of-requires
tree_of-requires c =
    let listed = accepted_is_listed c.args.sheet.now _ (sym c.in-Ok.is ∙ c.read.ensures) in
    rw (the_marks_are_taken_apart listed) (the_network_is_a_marked_tree (the_lists_are_taken_apart listed))

pub plan_tree-requires : goal.plan_tree-requires
plan_tree-requires c =
    let listed = accepted_is_listed c.args.sheet.now _ (sym c.in-Ok.is ∙ c.read.ensures) in
    let e = c.tree_of.ensures in
    rw (e.sites, e.one, e.two, e.marks, e.capacity) (the_lists_are_taken_apart listed, the_marks_are_taken_apart listed)

pub returns-in-Err : goal.returns-in-Err
returns-in-Err c =
    let e = refused_is_told (reporter c.args.whole) c.args.sheet.now c.args.report.now _ (sym c.in-Err.is ∙ c.read.ensures) in
    record { told = sym (ap (λ p. p.outcome) e); left = sym (ap (λ p. p.buffer) e) }
