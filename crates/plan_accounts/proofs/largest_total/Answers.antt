-- `largest_total`: the tree is charted, and no site is left out of the sum of its trimmed sizes.
use Rattle.std.proofs.Common.{ℕ, ap, ◌∙◌, arith}
use Rattle.lists.specs.Numbers.{look}
use Rattle.model.specs.Flows.{at_terminals}
use Rattle.model.specs.Trimming.{balanced}
use Rattle.theory_verdicts.specs.HandPlan.{largest_total}
use Rattle.tree.specs.Offer.{links}
use Rattle.region_sizes.specs.Laws.{without-a-far-site}
use Rattle.plan_accounts.proofs.largest_total.Goals as goal

pub trim-requires : goal.trim-requires
trim-requires c = let w = c.args.tree.within.within in rw c.of.ensures (w, omega (arith, w.firsts, w.few))

pub returns : goal.returns
unfolding largest_total
returns c =
    let t = c.args.tree in
    let ls = links t.one.now t.two.now in
    let ends = look c.of.result.ends in
    (rw c.of.ensures at c.trim.ensures.told)
    ∙ without-a-far-site ls t.sites ends (look (balanced ls t.sites ends t.capacity.now))
    ∙ ap (λ (e : ℕ → ℕ). at_terminals ls t.sites e (look (balanced ls t.sites e t.capacity.now))) (rw c.of.ensures at c.of.result.ended)
