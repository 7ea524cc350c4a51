-- `load_of` meets its contract, by its test.
use Rattle.std.proofs.Common.{min, ap₂, sym, ◌∙◌}
use Rattle.lists.specs.Sums.{pick_same, pick_other}
use Rattle.model.specs.WholeLoads.{top_load}
use Rattle.whole_notes.proofs.load_of.Goals as goal

pub returns-then-terminal-eq1 : goal.returns-then-terminal-eq1
returns-then-terminal-eq1 c = sym (pick_same c.if-terminal-eq1.true _ _)

pub returns : goal.returns
unfolding top_load
returns c =
    c.min.ensures ∙ ap₂ min c.saturating_sub.ensures c.saturating_sub-2.ensures ∙ sym (pick_other c.if-terminal-eq1.false _ _)
