-- `far_sites`: one way, then the other.
use Rattle.std.proofs.Common.{sym, ◌∙◌}
use Rattle.region_sharing.specs.Laws.{first-told, second-told}
use Rattle.region_sharing.proofs.far_sites.Goals as goal

pub returns-then-lone_in_both : goal.returns-then-lone_in_both
returns-then-lone_in_both c = first-told _ _ (sym c.lone_in_both.ensures ∙ c.if-lone_in_both.true)

pub returns : goal.returns
returns c = c.lone_in_both-2.ensures ∙ second-told _ _ (sym c.lone_in_both.ensures ∙ c.if-lone_in_both.false)
