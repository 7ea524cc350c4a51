-- `work_out`: answer by answer.
use Rattle.std.proofs.Common.{refl, sym, ◌∙◌, length}
use Rattle.std.proofs.lemmas.Result.{err_from_is_err_and}
use borrow.Author.Tests.{lt-leb}
use Rattle.model.specs.Edition.{largest}
use Rattle.tree.specs.Accepted.{accepted_is_a_tree_within_the_limits}
use Rattle.pairing.specs.Outcome.{decide, answer}
use Rattle.pairing.proofs.work_out.Goals as goal

pub returns-in_err-test : goal.returns-in_err-test
unfolding answer decide
returns-in_err-test c =
    let p = err_from_is_err_and c.from_residual.result c.from_residual.ensures.1 in
    rw (sym c.test.ensures ∙ c.in_err-test.was, p.1, p.2) refl

pub returns-then-places-one : goal.returns-then-places-one
unfolding answer decide
returns-then-places-one c =
    let a = c.args in
    rw (sym c.test.ensures ∙ c.in_ok-test.was, lt-leb (length a.one.now) a.places c.if-places-one.true) refl

pub invariant_of-take_apart : goal.invariant_of-take_apart
invariant_of-take_apart c =
    record { within = accepted_is_a_tree_within_the_limits largest _ _ _ _ _ (sym c.test.ensures ∙ c.in_ok-test.was) }

pub returns : goal.returns
returns c = c.take_apart.ensures _ c.if-places-one.false
