-- `partners`: the sites so far have their partners.
use Rattle.std.proofs.Common.{◌≡◌, length}
use Rattle.model.specs.Limits.{PLACES}
use Rattle.sheet_names.specs.Names.{ranges}
use Rattle.region_links.specs.Partners.{partner_in, Holds}
use Rattle.region_links.proofs.partners.Given as goal

abbrev pub invariant-loop-i : goal.invariant-loop-i
invariant-loop-i l = record {
  long : length l.list ≡ PLACES;
  so_far : Holds l.i (partner_in l.first (ranges l.starts l.stops 0 l.n) l.second (ranges l.starts2 l.stops2 0 l.m)) l.list;
}
