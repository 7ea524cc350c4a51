-- `least_of` meets its contract, by its test.
use Rattle.std.proofs.Common.{◌%◌, max, ap, sym, ◌∙◌}
use Rattle.lists.specs.Sums.{pick_same, pick_other}
use Rattle.whole_notes.proofs.least_of.Goals as goal

pub returns-then-terminal-eq1 : goal.returns-then-terminal-eq1
returns-then-terminal-eq1 c = sym (pick_same c.if-terminal-eq1.true _ _)

pub returns : goal.returns
returns c = c.max.ensures ∙ ap (λ z. max z (c.args.most % 2)) c.saturating_sub.ensures ∙ sym (pick_other c.if-terminal-eq1.false _ _)
