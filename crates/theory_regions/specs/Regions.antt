-- A region that shares one link with another: what it shows the other, and what it is given for the other's number.
-- Document 02, Card 10 (trimmed by itself, the lesser size, trimmed again, own ends, far site). Nothing of the other region stands here but that number.
use Rattle.std.specs.Prelude.{List, ℕ, ◌*◌, min, set}
use Rattle.lists.specs.Numbers.{pick, differ, look}
use Rattle.model.specs.Flows.{Links, one, two, leaf, mark, ends, at_terminals}
use Rattle.model.specs.Trimming.{balanced}

-- a region as it is trimmed: its links, the number of its sites, their marks, and the capacities of its links (usable sizes). The joined tree is given so too
pub record Region : Type 0 where
  pub links : Links
  pub sites : ℕ
  pub marks : List ℕ
  pub capacities : List ℕ

-- its ends: 1 at an end
abbrev pub ends_in : Region → ℕ → ℕ
ends_in a = look (ends a.links a.sites a.marks)

-- its trimmed sizes
abbrev pub trimmed : Region → List ℕ
trimmed a = balanced a.links a.sites (ends_in a) a.capacities

-- the region with m as the size of link s
abbrev pub resized : Region → ℕ → ℕ → Region
resized a s m = record { links = a.links; sites = a.sites; marks = a.marks; capacities = set a.capacities s m }

-- ---- the exchange; s is the shared link

-- the one number that a region shows: its first trimmed size of the shared link
unfoldable pub first_size : Region → ℕ → ℕ
first_size a s = look (trimmed a) s

-- trimmed again, once the lesser of the two first trimmed sizes, its own and the other's, is the shared link's size
unfoldable pub trimmed_again : Region → ℕ → ℕ → List ℕ
trimmed_again a s other = trimmed (resized a s (min (first_size a s) other))

-- ---- the sum over its own ends

-- 1 at a site with a single link and no mark, 0 elsewhere
unfoldable pub lone : Region → ℕ → ℕ
lone a v = leaf a.links v * differ (mark a.marks v) 1

-- of the two sites of the shared link the far one, on the other side: the second where it has a single link and no mark, else the first
unfoldable pub far_site : Region → ℕ → ℕ
far_site a s = pick (lone a (two a.links s)) 1 (two a.links s) (one a.links s)

-- the ends other than the far site
unfoldable pub own : (ℕ → ℕ) → ℕ → ℕ → ℕ
own end far v = pick v far 0 (end v)

-- the sum of sizes over the links of a region's own ends, each end counting each of its links; the far site counts for the other region
unfoldable pub own_sum : Region → ℕ → List ℕ → ℕ
own_sum a far sizes = at_terminals a.links a.sites (own (ends_in a) far) (look sizes)

-- ---- the answer

-- what a region is given: its trimmed sizes, in sheet order, and their sum over its own ends' links
pub record Given : Type 0 where
  pub sizes : List ℕ
  pub sum : ℕ

-- it is given that by itself, by which of its links is shared, and by the other's first trimmed size of that link
unfoldable pub given : Region → ℕ → ℕ → Given
given a s other = record { sizes = trimmed_again a s other; sum = own_sum a (far_site a s) (trimmed_again a s other) }
