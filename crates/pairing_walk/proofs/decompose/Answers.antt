-- `decompose`: the walks and the single links write the pairs one after the other.
use Rattle.std.proofs.Common.{◌*◌, ap, ◌∙◌, arith}
use Rattle.std.proofs.Math.ListN.{replicate}
use Rattle.model.specs.Limits.{SITES}
use Rattle.pairing_halves.specs.Arrays.{Added}
use Rattle.pairing_walk.specs.Visits.{listing, pairs_of}
use Rattle.pairing_walk.proofs.Singles.{all-added, pairs_inside, pairs-first}
use Rattle.pairing_walk.proofs.decompose.Goals as goal
use Rattle.pairing_walk.proofs.decompose.Goals.{After-join_links-count}

-- the pairs of the parts are added
added : (c : After-join_links-count) → Added (replicate (2 * SITES) (record { first = 0; second = 0; amount = 0 })) 0 c.join_links-count.new.pairs c.join_links-count.result
    (pairs_of c.args.chains.now.tree.sites c.args.ends.now c.args.chains.now.tree.one.now c.args.chains.now.tree.two.now c.args.capacity.now)
added c = all-added c.requires c.walk_parts-walked.ensures c.join_links-count.ensures

pub listed-requires : goal.listed-requires
listed-requires c = pairs_inside c.requires (omega arith) (all-added c.requires c.walk_parts-walked.ensures c.join_links-count.ensures)

pub returns : goal.returns
returns c =
    c.listed.ensures ∙ ap listing (pairs-first c.requires (omega arith) (all-added c.requires c.walk_parts-walked.ensures c.join_links-count.ensures))
