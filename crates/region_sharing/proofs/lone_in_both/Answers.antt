-- `lone_in_both`: the site of the first region, then that of the second.
use Rattle.std.proofs.Common.{sym, ◌∙◌, eqb-true}
use Rattle.theory_regions.specs.Regions.{lone}
use Rattle.region_links.specs.Laws.{the_other_decides}
use Rattle.region_sizes.specs.Offered.{region_of}
use Rattle.region_sharing.specs.Laws.{not_lone_in_both}
use Rattle.region_sharing.proofs.lone_in_both.Goals as goal

pub returns-then-lone : goal.returns-then-lone
returns-then-lone c =
    c.lone-then-lone.ensures
    ∙ the_other_decides (lone (region_of c.args.tree) c.args.y) (lone (region_of c.args.tree2) c.args.z) (eqb-true _ 1 (sym c.lone.ensures ∙ c.if-lone.true))

pub returns : goal.returns
returns c = not_lone_in_both _ _ _ (sym c.lone.ensures ∙ c.if-lone.false)
