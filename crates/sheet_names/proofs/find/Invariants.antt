-- `find`: the sites from this one on do not have the name, and this one has its hash.
use Rattle.std.proofs.Common.{◌≤◌}
use Rattle.sheet_names.specs.Names.{ranges}
use Rattle.sheet_names.specs.TableLaws.{Back}
use Rattle.sheet_names.proofs.find.Given as goal

abbrev pub invariant-loop-site : goal.invariant-loop-site
invariant-loop-site l = record {
  within : l.site ≤ l.sites;
  back : Back l.sheet (ranges l.starts l.ends 0 l.sites) l.name l.site;
}

abbrev pub decreases-loop-site : goal.decreases-loop-site
decreases-loop-site l = l.site
