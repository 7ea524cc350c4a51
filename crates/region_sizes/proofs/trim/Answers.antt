-- `trim`: the trimmed sizes stand at the front of the list, and are summed over the ends.
use Rattle.std.proofs.Common.{◌≡◌, ◌++◌, length, drop, subst, sym, ap, ◌∙◌, arith}
use Rattle.lists.specs.Numbers.{look}
use Rattle.model.specs.Edition.{largest}
use Rattle.model.specs.Flows.{at_terminals}
use Rattle.model.specs.Trimming.{balanced}
use Rattle.theory_regions.specs.Regions.{own}
use Rattle.tree.specs.Accepted.{TreeWithin}
use Rattle.tree.specs.Offer.{links}
use Rattle.region_sizes.specs.Laws.{trimmed-is-within, the_front_is_trimmed}
use Rattle.region_sizes.proofs.trim.Goals as goal

pub own_sum-requires : goal.own_sum-requires
own_sum-requires c =
    let t = c.args.chart.now.chains.tree in
    let terminal = look c.args.chart.now.ends in
    subst (TreeWithin largest t.sites t.one.now t.two.now) (sym (the_front_is_trimmed c.requires.0 terminal _ _ c.balance.ensures))
    (trimmed-is-within c.requires.0 terminal)

pub returns : goal.returns
returns c =
    let t = c.args.chart.now.chains.tree in
    let ls = links t.one.now t.two.now in
    let terminal = look c.args.chart.now.ends in
    let all : length c.args.capacity.now ≡ length t.one.now = omega (arith, c.requires.0.firsts, c.requires.0.capacities) in
    record {
      told = c.own_sum.ensures ∙ ap (λ l. at_terminals ls t.sites (own terminal c.args.far) (look l)) (the_front_is_trimmed c.requires.0 terminal _ _ c.balance.ensures);
      left = c.balance.ensures ∙ ap (λ k. balanced ls t.sites terminal c.args.capacity.now ++ drop k c.args.sizes.now) all;
    }
