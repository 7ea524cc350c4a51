-- `offer_of` meets its contract, test by test.
use Rattle.std.proofs.Common.{refl, sym, ◌∙◌}
use Rattle.std.proofs.lemmas.Bool.{eq-eqb, ne_eqb}
use Rattle.tree.specs.Offer.{offer_of}
use Rattle.tree.proofs.offer_of.Goals as goal
use Rattle.tree.proofs.offer_of.Goals.{then-not-tree-via-then-not-tree, then-not-tree-via-else-not-tree+then-capacity-links}

pub returns-then-not-tree : goal.returns-then-not-tree
unfolding offer_of
returns-then-not-tree c = elim c.then-not-tree.branch [
  | then-not-tree-via-then-not-tree w ↦ rw w.if-not-tree.true refl
  | then-not-tree-via-else-not-tree+then-capacity-links w ↦ rw (w.if-not-tree.false, ne_eqb _ _ w.if-capacity-links.true) refl
]

pub returns-then-not-capacities_within : goal.returns-then-not-capacities_within
unfolding offer_of
returns-then-not-capacities_within c = rw (
  c.if-not-tree.false,
  eq-eqb _ _ c.if-capacity-links.false,
  sym c.capacities_within.ensures ∙ c.if-not-capacities_within.true,
) refl

pub returns : goal.returns
unfolding offer_of
returns c = rw (
  c.if-not-tree.false,
  eq-eqb _ _ c.if-capacity-links.false,
  sym c.capacities_within.ensures ∙ c.if-not-capacities_within.false,
) refl
