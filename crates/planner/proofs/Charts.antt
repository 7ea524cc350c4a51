-- A chart of the tree of an accepted sheet has the order, the ends and the chains of its network.
use Rattle.std.proofs.Common.{◌≡◌, ap, ◌∙◌}
use Rattle.lists.specs.Numbers.{look}
use Rattle.model.specs.Flows.{ends}
use Rattle.report.specs.declared.Names.{Names}
use Rattle.tree.specs.Offer.{links}
use Rattle.tree_links.specs.declared.Chart.{Chart}
use Rattle.planner.specs.Ready.{Apart, Charted}
use Rattle.planner.specs.Taken.{the_ends_are_the_networks}

pub charted : (names : Names) (chart : Chart) (p : Apart names chart.chains.tree) → Charted p.0 chart.order chart.ends chart.chains.last chart.chains.before
charted names chart p =
    let t = chart.chains.tree in
    record {
      ordered = chart.ordered;
      marked = chart.ended ∙ ap (λ marks. look (ends (links t.one.now t.two.now) t.sites marks)) p.1 ∙ the_ends_are_the_networks p.0;
      chained = chart.chains.chained;
    }
