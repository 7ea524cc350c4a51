-- `balance`: a copy of the capacities, cut along the elimination order and back, is the balanced ones.
use Rattle.std.proofs.Common.{rules, ◌≡◌, length, drop, ◌∙◌}
use Rattle.std.proofs.Math.Path.{ap₂}
use Rattle.model.specs.Limits.{PLACES}
use Rattle.lists.specs.Numbers.{look}
use Rattle.model.specs.Trimming.{elimination}
use Rattle.theory_trees.proofs.Orders.{elimination_is_inward}
use Rattle.tree.specs.Offer.{links}
use Rattle.trimming_passes.specs.Steps.{balanced_first}
use Rattle.trimming_passes.specs.Along.{elimination_in_places, balanced_in_place}
use Rattle.trimming_passes.proofs.Summing.{copied_kept}
use Rattle.trimming_passes.proofs.balance.Goals as goal

pub sums-sums-requires : goal.sums-sums-requires
sums-sums-requires c = let w = c.requires.0 in rw w.firsts at w

pub both_ways-requires : goal.both_ways-requires
both_ways-requires c =
    let in-places = elimination_in_places c.requires.0 in
    let long : length c.sums-sums.result ≡ PLACES = search (rules, c.sums-sums.type_inv) in
    let kept = copied_kept c.requires.0 c.args.lent.now c.requires.2 long c.sums-sums.ensures in
    (rw c.requires.1 in-places, rw c.copy.ensures kept)

pub returns : goal.returns
returns c =
    let tree = c.args.chains.now.tree in
    let ls = links tree.one.now tree.two.now in
    let terminal = look c.args.ends.now in
    c.both_ways.ensures.0
    ∙ ap₂ (balanced_first tree.one.now tree.two.now terminal) c.requires.1 c.copy.ensures
    ∙ balanced_in_place c.requires.0 terminal (elimination ls tree.sites) (elimination_is_inward c.requires.0.tree) (drop (length c.args.capacity.now) c.args.lent.now)
