-- `enter`: the first child is the first in the list of the site.
use Rattle.std.proofs.Common.{refl}
use Rattle.pairing_walk.proofs.enter.Goals as goal

pub next_child-next-requires : goal.next_child-next-requires
next_child-next-requires c =
    let p = c.requires in
    record { tree = p.tree; placed = p.placed; afters = p.lists.afters; list = (c.args.v, 0, p.lists.firsts c.args.v) }

pub returns : goal.returns
returns c = record {
  site = refl;
  link = refl;
  comes = refl;
  remains = refl;
  from = refl;
  first = c.next_child-next.ensures c.args.v 0 (c.requires.lists.firsts c.args.v);
}
