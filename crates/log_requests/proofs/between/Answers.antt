-- `between`: look-up by look-up, then whether the sites are two ends free to be joined.
use Rattle.std.proofs.Common.{true, false, sym, ◌∙◌}
use borrow.Author.Tests.{eqb-true, eqb-false}
use Rattle.lists.specs.Numbers.{look}
use Rattle.tree.specs.Offer.{links}
use Rattle.log_requests.specs.Requests.{between}
use Rattle.log_requests.proofs.RequestLaws.{a_free_pair_is_asked_for, a_pair_that_is_not_free_gets_6}
use Rattle.log_requests.proofs.between.Goals as goal

pub returns-in_default : goal.returns-in_default
unfolding between
returns-in_default c = rw c.in_default.is

pub returns-in_default-to : goal.returns-in_default-to
unfolding between
returns-in_default-to c = rw (c.in-Some.is, c.in_default-to.is)

pub free-requires : goal.free-requires
free-requires c = (c.requires.0, rw c.in-Some.is at c.requires.1, rw c.in-Some-to.is at c.requires.2, c.requires.3)

pub returns-then-not-free : goal.returns-then-not-free
returns-then-not-free c =
    let a = c.args in
    rw (c.in-Some.is, c.in-Some-to.is)
    (sym (a_pair_that_is_not_free_gets_6 (links a.one.now a.two.now) (look a.ends.now) a.opens a.amount c.in-Some.first c.in-Some-to.second
    (eqb-false _ 1 (sym c.free.ensures ∙ c.if-not-free.true))))

pub returns-then-opens : goal.returns-then-opens
returns-then-opens c =
    let a = c.args in
    rw (c.in-Some.is, c.in-Some-to.is, c.if-opens.true)
    (sym (a_free_pair_is_asked_for (links a.one.now a.two.now) (look a.ends.now) true a.amount c.in-Some.first c.in-Some-to.second
    (eqb-true _ 1 (sym c.free.ensures ∙ c.if-not-free.false))))

pub returns : goal.returns
returns c =
    let a = c.args in
    rw (c.in-Some.is, c.in-Some-to.is, c.if-opens.false)
    (sym (a_free_pair_is_asked_for (links a.one.now a.two.now) (look a.ends.now) false a.amount c.in-Some.first c.in-Some-to.second
    (eqb-true _ 1 (sym c.free.ensures ∙ c.if-not-free.false))))
