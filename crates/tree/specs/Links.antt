-- Links that are offered as two lists: their number, and the sites of each.
pub use Rattle.tree_order.specs.Links.{length-links, links-one, links-two, links-at-site}
