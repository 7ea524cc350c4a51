-- `first_size`: it stands in the list of trimmed sizes.
use Rattle.std.proofs.Common.{ℕ, ap, ◌∙◌}
use Rattle.lists.specs.Numbers.{look}
use Rattle.model.specs.Trimming.{balanced}
use Rattle.theory_regions.specs.Regions.{first_size}
use Rattle.tree.specs.Offer.{links}
use Rattle.region_sizes.specs.Laws.{a_trimmed_size_stands_there}
use Rattle.region_sizes.proofs.first_size.Goals as goal

pub returns : goal.returns
unfolding first_size
returns c =
    let chart = c.args.chart.now in
    let t = chart.chains.tree in
    ap (λ l. look l c.args.link) c.balance.ensures
    ∙ a_trimmed_size_stands_there t.within.within (look chart.ends) _ c.args.link c.requires
    ∙ ap (λ (terminal : ℕ → ℕ). look (balanced (links t.one.now t.two.now) t.sites terminal t.capacity.now) c.args.link) chart.ended
