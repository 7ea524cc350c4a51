-- `relabel` meets its contract: it is the definition.
use mathlib.Core.Path.{sym}
use Rattle.model.specs.Flows.{relabel}
use Rattle.lists.specs.Sums.{pick_same, pick_other}
use Rattle.tree_labels.proofs.relabel.Statement.{statement}
use Rattle.tree_labels.proofs.relabel.Tie as tie

returns : tie.Need-returns-then-label-q
unfolding relabel
returns c = sym (pick_same c.if-label-q.true _ _)

returns-2 : tie.Need-returns-else-label-q
unfolding relabel
returns-2 c = sym (pick_other c.if-label-q.false _ _)

pub relabel_spec : {M : Type 1} → statement M
relabel_spec = tie.close (tie.spec returns returns-2)
