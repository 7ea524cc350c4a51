-- `own_at`: the far site first, then whether the site is an end.
use Rattle.std.proofs.Common.{◌≡◌, ◌≢◌, ◌∙◌, arith}
use Rattle.lists.specs.Numbers.{look}
use Rattle.region_sizes.specs.Laws.{the_far_site_counts_nothing, a_joint_counts_nothing, an_own_end_counts}
use Rattle.region_sizes.proofs.own_at.Goals as goal

pub returns-then-v-far : goal.returns-then-v-far
returns-then-v-far c =
    let a = c.args in
    let far : a.v ≡ a.far = omega arith in
    the_far_site_counts_nothing (look a.chart.now.ends) a.far a.v _ far

pub returns-then-chart-v-ne1 : goal.returns-then-chart-v-ne1
returns-then-chart-v-ne1 c =
    let a = c.args in
    let own : a.v ≢ a.far = omega arith in
    let joint : look a.chart.now.ends a.v ≢ 1 = omega arith in
    a_joint_counts_nothing (look a.chart.now.ends) a.far a.v _ own joint

pub returns : goal.returns
returns c =
    let a = c.args in
    let own : a.v ≢ a.far = omega arith in
    let end : look a.chart.now.ends a.v ≡ 1 = omega arith in
    c.sum_at.ensures ∙ an_own_end_counts (look a.chart.now.ends) a.far a.v _ own end
