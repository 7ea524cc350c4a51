-- The link that two sites of a region may share, by what one sheet alone can show of it.
-- Document 02, Card 10.
use Rattle.std.specs.Prelude.{ℕ, ◌*◌, max, length}
use Rattle.lists.specs.Numbers.{pick, differ}
use Rattle.theory_regions.specs.Regions.{Region, lone}
use Rattle.theory_regions.specs.Sharing.{first_from}
use Rattle.region_links.specs.Partners.{joining}

-- the link that the sites x and y of a region may share: they are two, one of them, the far one, has a single link and no mark, and this link is between them;
-- the number of links where there is none
unfoldable pub link_of : Region → ℕ → ℕ → ℕ
link_of a x y = pick (differ x y * max (lone a x) (lone a y)) 1 (first_from (joining a.links x y) 0 (length a.links)) (length a.links)
