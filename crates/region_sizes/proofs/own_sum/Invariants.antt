-- `own_sum`: the sum over the first i sites.
use Rattle.std.proofs.Common.{◌≡◌, ◌+◌, ◌*◌}
use Rattle.lists.specs.Numbers.{is, look, sum}
use Rattle.model.specs.Flows.{sum_at}
use Rattle.theory_regions.specs.Regions.{own}
use Rattle.tree.specs.Offer.{links}
use Rattle.region_sizes.proofs.own_sum.Given as goal

abbrev pub invariant-loop-i : goal.invariant-loop-i
invariant-loop-i l = l.total ≡ sum l.i (λ k. is (own (look l.chart.ends) l.far (1 + k)) 1
    * sum_at (links l.chart.chains.tree.one.now l.chart.chains.tree.two.now) (1 + k) (look l.sizes))
