-- `judge_network` meets its contract: the bytes and the lines first, then the lists are the network taken apart.
use Rattle.std.proofs.Common.{sym, ◌∙◌, arith}
use Rattle.planner.specs.Taken.{the_lists_are_taken_apart, the_marks_are_taken_apart, the_network_is_a_marked_tree}
use Rattle.log_names.specs.Names.{the_names_are_distinct}
use Rattle.verdicts.proofs.OverNetwork.{too_many_bytes, too_many_lines, judged_by_its_lines, the_verdict_is_the_networks}
use Rattle.verdicts.proofs.judge_network.Goals as goal

pub returns-then-plan-gt-PLANBYTES : goal.returns-then-plan-gt-PLANBYTES
returns-then-plan-gt-PLANBYTES c = sym (too_many_bytes c.requires c.args.plan.now (omega arith))

pub returns-then-too_many : goal.returns-then-too_many
returns-then-too_many c =
    sym (too_many_lines c.requires c.args.plan.now (omega arith) (omega (arith, c.count_lines-too_many.ensures)))

pub tree_of-tree-requires : goal.tree_of-tree-requires
tree_of-tree-requires c = rw (the_marks_are_taken_apart c.requires) (the_network_is_a_marked_tree (the_lists_are_taken_apart c.requires))

pub judge_tree-requires : goal.judge_tree-requires
judge_tree-requires c = (rw c.tree_of-tree.ensures.sites (the_names_are_distinct c.requires), omega (arith, c.count_lines-too_many.ensures))

pub returns : goal.returns
returns c =
    let e = c.tree_of-tree.ensures in
    (rw (e.sites, e.one, e.two, e.marks, e.capacity) at c.judge_tree.ensures)
    ∙ the_verdict_is_the_networks c.requires c.args.plan.now
    ∙ sym (judged_by_its_lines c.requires c.args.plan.now (omega arith) (omega (arith, c.count_lines-too_many.ensures)))
