-- `choices` meets its contract: the numbers are computed.
use mathlib.Core.Path.{sym}
use Rattle.books.specs.Steps.{pages_of_2, pages_of_3, pages_of_4, pages_of_5, no_pages}
use Rattle.books.proofs.choices.Statement.{statement}
use Rattle.books.proofs.choices.Tie as tie

none : tie.Need-returns
none c = sym (no_pages _ c.before.before.before.if-sites-eq2.false c.before.before.if-sites-eq3.false c.before.if-sites-eq4.false c.if-sites-eq5.false)

pub choices_spec : {M : Type 1} → statement M
choices_spec =
    tie.close
    (tie.spec
    (λ c. rw c.if-sites-eq2.true (sym pages_of_2))
    (λ c. rw c.if-sites-eq3.true (sym pages_of_3))
    (λ c. rw c.if-sites-eq4.true (sym pages_of_4))
    (λ c. rw c.if-sites-eq5.true (sym pages_of_5))
    none)
