-- `Chains::of`: each turn chains one link more.
use Rattle.std.proofs.Common.{◌≡◌, length, ap, ◌∙◌, arith}
use Rattle.tree.specs.Offer.{links}
use Rattle.tree_links.specs.Chains.{last_at, offer-placed}
use Rattle.tree_links.proofs.Chaining.{chain-start, chain_next}
use Rattle.tree_links.proofs.Chains.of.Goals as goal

pub loop-j-init : goal.loop-j-init
loop-j-init c = chain-start _ _

pub loop-j-preserved : goal.loop-j-preserved
loop-j-preserved c = chain_next (offer-placed c.args.tree.within.within) (omega arith) c.loop-j.invariant

pub invariant_of-result : goal.invariant_of-result
invariant_of-result c =
    let r = c.loop-j.invariant in
    let all : c.loop-j.j ≡ length c.args.tree.one.now = omega arith in
    record {
      chained = record {
        placed = offer-placed c.args.tree.within.within;
        lasts = λ v h. r.lasts v h ∙ ap (λ j. last_at (links c.args.tree.one.now c.args.tree.two.now) j v) all;
        firsts = λ j h. (r.befores j (omega arith)).0;
        others = λ j h. (r.befores j (omega arith)).1;
        behind = λ i h. r.behind i (omega arith);
      };
    }
