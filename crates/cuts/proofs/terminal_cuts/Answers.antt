-- `terminal_cuts` meets its contract, answer by answer.
use Rattle.std.proofs.Common.{◌≡◌, refl, sym, ap, ◌∙◌}
use Rattle.std.specs.Prelude.{Ok, true, false}
use Rattle.std.proofs.lemmas.Bool.{eq-eqb, ne_eqb}
use Rattle.std.proofs.lemmas.Result.{err_from_is_err_and}
use Rattle.model.specs.Limits.{SIZE}
use Rattle.model.specs.Edition.{largest}
use Rattle.tree.specs.Offer.{within}
use Rattle.tree.specs.Accepted.{accepted_is_a_tree_within_the_limits}
use Rattle.cuts.specs.Outcome.{decide, outcome}
use Rattle.cuts.proofs.terminal_cuts.Goals as goal

pub returns-in_err-test : goal.returns-in_err-test
unfolding outcome decide
returns-in_err-test c = let p = err_from_is_err_and c.from_residual.result c.from_residual.ensures.1 in
    let o = sym c.test.ensures ∙ c.in_err-test.was in
    rw (o, p.1, p.2) refl

pub returns-then-balanced-one : goal.returns-then-balanced-one
unfolding outcome decide
returns-then-balanced-one c = let o = sym c.test.ensures ∙ c.in_ok-test.was in
    rw (o, ne_eqb _ _ c.if-balanced-one.true) refl

pub returns-then-not-capacities_within : goal.returns-then-not-capacities_within
unfolding outcome decide
returns-then-not-capacities_within c = let o = sym c.test.ensures ∙ c.in_ok-test.was in
    let large : within 0 SIZE c.args.balanced.now ≡ false = sym c.capacities_within.ensures ∙ c.if-not-capacities_within.true in
    rw (o, eq-eqb _ _ c.if-balanced-one.false, large) refl

pub invariant_of-tree : goal.invariant_of-tree
invariant_of-tree c = let o = sym c.test.ensures ∙ c.in_ok-test.was in
    record { within = accepted_is_a_tree_within_the_limits largest _ _ _ _ _ o }

pub cuts_by_ends-requires : goal.cuts_by_ends-requires
cuts_by_ends-requires c = c.if-balanced-one.false

pub returns : goal.returns
unfolding outcome decide
returns c = let o = sym c.test.ensures ∙ c.in_ok-test.was in
    let small : within 0 SIZE c.args.balanced.now ≡ true = sym c.capacities_within.ensures ∙ c.if-not-capacities_within.false in
    rw (o, eq-eqb _ _ c.if-balanced-one.false, small) (ap Ok c.cuts_by_ends.ensures)
