-- Two networks that are read from sheets as two regions: names in common, the shared link, what each region is given.
-- Document 02, Card 10, and Card 4 (names in either case).
use Rattle.std.specs.Prelude.{List, ℕ, ◌-◌, length}
use Rattle.text_fields.specs.Fields.{capitals}
use Rattle.sheet_names.specs.Names.{name_at, lookup}
use Rattle.sheet.specs.Sheet.{Network}
use Rattle.theory_regions.specs.Regions.{Region, first_size, Given, given}
use Rattle.theory_regions.specs.JoinedTree.{Border}
use Rattle.theory_regions.specs.Sharing.{SharesOneLink, Sharing, sharing_of}
use Rattle.region_links.specs.Partners.{site_found}

-- a network as a region, by the usable sizes of its links
abbrev pub region_of : Network → Region
region_of net = record { links = net.links; sites = length net.names; marks = net.marks; capacities = net.capacities }

-- ---- names in common

-- the name of site x of the sheet s, a-z read as A-Z: two sites have one name where these are equal (02, Card 4)
abbrev pub site_name : List ℕ → Network → ℕ → List ℕ
site_name s net x = capitals (name_at s net.names (x - 1))

-- the site of the second sheet t that has the name of site x of the first sheet s, in either case; 0 where there is none
unfoldable pub partner : List ℕ → Network → List ℕ → Network → ℕ → ℕ
partner s net t other x = site_found (lookup t other.names (name_at s net.names (x - 1)))

-- ---- the shared link

-- the sheets have exactly two names in common, these joined by a link in both, of equal usable size, one having a single link and no mark in the first sheet,
-- the other so in the second (02: 18 unless this holds); p and q: the shared link in each sheet, with its near site and its far site
abbrev pub Share : List ℕ → Network → List ℕ → Network → Border → Border → Type 0
Share s net t other p q = SharesOneLink (region_of net) (region_of other) (site_name s net) (site_name t other) p q

-- whether they do
abbrev pub sharing_in : List ℕ → Network → List ℕ → Network → Sharing
sharing_in s net t other = sharing_of (region_of net) (region_of other) (partner s net t other)

-- ---- what a region is given

-- the one number that a region shows: its first trimmed size of link j
abbrev pub shown : Network → ℕ → ℕ
shown net j = first_size (region_of net) j

-- what it is given: by its own network, by which of its links is shared, and by the other's number
abbrev pub given_to : Network → ℕ → ℕ → Given
given_to net j number = given (region_of net) j number
