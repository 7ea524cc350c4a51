-- `named_link`: both names are looked up by the table, and the link between their sites is found.
use Rattle.std.proofs.Common.{ap, ◌∙◌}
use Rattle.std.proofs.Math.Path.{ap₂}
use Rattle.region_links.specs.Partners.{site_found}
use Rattle.region_sizes.specs.Offered.{region_of}
use Rattle.side_links.specs.SharedLink.{link_of}
use Rattle.side_links.proofs.named_link.Goals as goal

pub returns : goal.returns
returns c =
    c.link_of.ensures
    ∙ ap₂ (link_of (region_of c.args.tree)) (c.unwrap_or.ensures ∙ ap site_found c.find-found.ensures) (c.unwrap_or-2.ensures ∙ ap site_found c.find-found2.ensures)
