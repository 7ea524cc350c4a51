-- `page` meets its contract: the page is measured, and written where there is room for it.
use mathlib.Core.Path.{sym, ap}
use Prim.Native.Nat.{◌<◌}
use native.Mathlib.Omega.{arith}
use borrow.Author.Rules.{rules}
use Rattle.text_writers.specs.Writing.{same_size}
use Rattle.books.specs.Outcome.{choices}
use Rattle.books.specs.Steps.{a_page_has_2_to_5_sites, no_page_is_empty, a_page_too_long, a-page-stored}
use Rattle.books.proofs.page.Statement.{statement}
use Rattle.books.proofs.page.Tie as tie

-- there is such a page
found : (c : tie.Else-choices-choice) → let a = c.before.before.before.args in a.choice < choices a.sites
found c = omega (arith, c.before.choices.ensures)

returns : tie.Need-returns-then-choices-choice
returns c =
    let a = c.before.before.before.args in
    let e = no_page_is_empty a.sites a.choice a.buffer.now (omega (arith, c.before.choices.ensures)) in
    (sym (ap (λ p. p.outcome) e), sym (ap (λ p. p.buffer) e))

returns-2 : tie.Need-returns-then-buffer-length
returns-2 c =
    let a = c.before.before.before.before.before.before.before.args in
    let e = a_page_too_long a.sites a.choice (found c.before.before.before.before) a.buffer.now
    (omega (arith, c.before.before.put_page-length.ensures.wrote.next)) in
    (sym (ap (λ p. p.outcome) e), sym (ap (λ p. p.buffer) e))

returns-3 : tie.Need-returns
returns-3 c =
    let first = c.before.before.before.before.before.before in
    let there = first.before.before in
    let a = there.before.before.before.args in
    let measured = first.put_page-length.ensures.wrote.next in
    let e = a-page-stored a.sites a.choice (found there) a.buffer.now _ first.put_page-length.result (omega (arith, measured)) (omega (arith, measured))
    c.before.before.put_page.ensures.wrote.stored in
    (sym (ap (λ p. p.outcome) e), sym (ap (λ p. p.buffer) e))

pub page_spec : {M : Type 1} → statement M
page_spec =
    tie.close
    (tie.spec
    (λ c κs. search rules)
    returns
    (λ c. search rules)
    (λ c κs. let a = c.before.before.before.before.args in a_page_has_2_to_5_sites a.sites a.choice (found c.before))
    returns-2
    (λ c κs. let there = c.before.before.before.before.before in
    let a = there.before.before.before.args in
    a_page_has_2_to_5_sites a.sites a.choice (found there))
    (λ c. same_size c.before.before.put_page.ensures.wrote)
    returns-3)
