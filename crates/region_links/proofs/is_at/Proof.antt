-- `is_at` meets its contract: the first site, then the second.
use Rattle.region_links.specs.Laws.{at_the_first, at_the_second}
use Rattle.region_links.proofs.is_at.Statement.{statement}
use Rattle.region_links.proofs.is_at.Tie as tie

returns : tie.Need-returns-then-first-v
returns c = let a = c.before.args in at_the_first a.first a.second a.v c.if-first-v.true

returns-2 : tie.Need-returns
returns-2 c = let a = c.before.args in at_the_second a.first a.second a.v c.if-first-v.false

pub is_at_spec : {M : Type 1} → statement M
is_at_spec = tie.close (tie.spec returns returns-2)
