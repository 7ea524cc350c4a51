-- `single_word`: the bit stands in one word.
use Rattle.std.proofs.Common.{◌%◌, ◌^◌, sym, ◌∙◌, one-mul, shl_exact, arith}
use Rattle.lists.specs.Sums.{pick_same, pick_other}
use Rattle.log_paths.specs.Rows.{single}
use Rattle.log_paths.proofs.single_word.Goals as goal

pub returns-then-j-q : goal.returns-then-j-q
unfolding single
returns-then-j-q c =
    let j = c.args.j in
    shl_exact 1 (j % 64) 64 (omega arith) (omega arith) ∙ one-mul (2 ^ (j % 64)) ∙ sym (pick_same c.if-j-q.true _ _)

pub returns : goal.returns
unfolding single
returns c = sym (pick_other c.if-j-q.false _ _)
