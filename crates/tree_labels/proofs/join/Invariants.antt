-- The labels passed are relabelled, and the others are as they were.
use Rattle.std.proofs.Common.{◌≡◌}
use Rattle.model.specs.Flows.{relabel}
use Rattle.tree_labels.specs.LabelPlaces.{partly}
use Rattle.tree_labels.proofs.join.Given as goal

abbrev pub invariant-loop-label : goal.invariant-loop-label
invariant-loop-label l = l.labels ≡ partly (relabel l.p l.q) l.fn.labels l.label-index
