-- `joins` meets its contract: x first, then y.
use mathlib.Core.Path.{sym, ◌∙◌}
use borrow.Author.Rules.{rules}
use borrow.Author.Tests.{eqb-true, eqb-false}
use Rattle.lists.specs.Numbers.{pick, is}
use Rattle.region_links.specs.Laws.{not_at_it, the_other_decides}
use Rattle.region_links.proofs.joins.Statement.{statement}
use Rattle.region_links.proofs.joins.Tie as tie

returns : tie.Need-returns-then-is_at
returns c =
    let a = c.before.before.before.args in
    c.is_at-then-is_at.ensures
    ∙ the_other_decides (pick a.first a.x 1 (is a.second a.x)) (pick a.first a.y 1 (is a.second a.y))
    (eqb-true _ 1 (sym c.before.before.is_at.ensures ∙ c.before.if-is_at.true))

returns-2 : tie.Need-returns
returns-2 c =
    let a = c.before.before.args in
    not_at_it a.first a.second a.x (pick a.first a.y 1 (is a.second a.y))
    (eqb-false _ 1 (sym c.before.is_at.ensures ∙ c.if-is_at.false))

pub joins_spec : {M : Type 1} → statement M
joins_spec = tie.close (tie.spec (λ c κs. search rules) (λ c κs. search rules) returns returns-2)
