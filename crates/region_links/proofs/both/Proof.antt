-- `both` meets its contract: x first, then y.
use borrow.Author.Rules.{rules}
use Rattle.region_links.specs.Laws.{no_partner, the_other_has_a_partner}
use Rattle.region_links.proofs.both.Statement.{statement}
use Rattle.region_links.proofs.both.Tie as tie

returns : tie.Need-returns-then-partners-x-eq0
returns c = no_partner _ _ c.if-partners-x-eq0.true

returns-2 : tie.Need-returns
returns-2 c = the_other_has_a_partner _ _ c.before.if-partners-x-eq0.false

pub both_spec : {M : Type 1} → statement M
both_spec = tie.close (tie.spec (λ c. search rules) (λ c. search rules) returns (λ c. search rules) (λ c. search rules) returns-2)
