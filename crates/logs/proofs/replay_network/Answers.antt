-- `replay_network` meets its contract: the bytes, the lines and the places first, then the lists are the network taken apart.
use Rattle.std.specs.Prelude.{◌++◌, length, drop, Ok}
use Rattle.std.proofs.Common.{sym, ap, ◌∙◌, arith}
use Rattle.planner.specs.Taken.{the_lists_are_taken_apart, the_marks_are_taken_apart, the_network_is_a_marked_tree}
use Rattle.log_requests.specs.Requests.{lines}
use Rattle.log_names.specs.Names.{the_names_are_distinct}
use Rattle.logs.proofs.OverNetwork.{too_many_bytes, too_many_lines, too_few_places, every_line_answered, the_answers_are_the_networks}
use Rattle.logs.proofs.replay_network.Goals as goal

pub returns-then-log-gt-LOGBYTES : goal.returns-then-log-gt-LOGBYTES
returns-then-log-gt-LOGBYTES c =
    let e = too_many_bytes c.requires c.args.log.now c.args.list.now (omega arith) in
    record { told = sym (ap (λ p. p.outcome) e); left = sym (ap (λ p. p.list) e) }

pub returns-then-count-gt-LOGLINES : goal.returns-then-count-gt-LOGLINES
returns-then-count-gt-LOGLINES c =
    let n = c.count_lines-count.ensures in
    let e = too_many_lines c.requires c.args.log.now c.args.list.now (omega arith) (omega (arith, n)) in
    record { told = sym (ap (λ p. p.outcome) e); left = sym (ap (λ p. p.list) e) }

pub returns-then-count-list : goal.returns-then-count-list
returns-then-count-list c =
    let n = c.count_lines-count.ensures in
    let e = too_few_places c.requires c.args.log.now c.args.list.now (omega arith) (omega (arith, n)) (omega (arith, n)) in
    record { told = sym (ap (λ p. p.outcome) e); left = sym (ap (λ p. p.list) e) }

pub tree_of-tree-requires : goal.tree_of-tree-requires
tree_of-tree-requires c = rw (the_marks_are_taken_apart c.requires) (the_network_is_a_marked_tree (the_lists_are_taken_apart c.requires))

pub answer_tree-requires : goal.answer_tree-requires
answer_tree-requires c = (rw c.tree_of-tree.ensures.sites (the_names_are_distinct c.requires), omega (arith, c.count_lines-count.ensures))

pub returns : goal.returns
returns c =
    let log = c.args.log.now in
    let l = c.args.list.now in
    let n = c.count_lines-count.ensures in
    let e1 = c.tree_of-tree.ensures in
    let e = every_line_answered c.requires log l (omega arith) (omega (arith, n)) (omega (arith, n)) in
    record {
      told = ap Ok n ∙ sym (ap (λ p. p.outcome) e);
      left = (rw (e1.sites, e1.one, e1.two, e1.marks, e1.capacity) at c.answer_tree.ensures) ∙ ap (λ a. a ++ drop (length (lines log)) l) (the_answers_are_the_networks c.requires log)
          ∙ sym (ap (λ p. p.list) e);
    }
