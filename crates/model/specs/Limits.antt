-- The limits of the planner, by the names that src/lib.rt gives them. Document 01, "The network sheet", and 02, Cards 6, 8 and 12. A number changes here and
-- there; nothing but these two files knows them. Those of sheets and trees are the largest edition's.
use Rattle.std.specs.Prelude.{ℕ, ◌+◌, ◌-◌, ◌*◌, ◌/◌}

-- the largest number of sites of a tree
abbrev pub SITES : ℕ
SITES = 384

-- the largest number of links
abbrev pub LINKS : ℕ
LINKS = SITES - 1

-- places of a list with one for each site, place 0 unused
abbrev pub PLACES : ℕ
PLACES = SITES + 1

-- places of the chains of links: two for each link
abbrev pub CHAINS : ℕ
CHAINS = 2 * SITES

-- numbers that spell a list of halves: two for each entry
abbrev pub HALVES : ℕ
HALVES = 2 * SITES

-- numbers that spell a pair list: three for each pair
abbrev pub NUMBERS : ℕ
NUMBERS = 3 * SITES

-- words of 64 bits of a set of sites
abbrev pub WORDS : ℕ
WORDS = SITES / 64

-- words of a set of sites for each label
abbrev pub SETS : ℕ
SETS = WORDS * PLACES

-- the largest number of bytes of a sheet
abbrev pub BYTES : ℕ
BYTES = 24576

-- the largest size of a link
abbrev pub SIZE : ℕ
SIZE = 1000000

-- bytes that are enough for every report
abbrev pub REPORT : ℕ
REPORT = 65536

-- the largest number of lines of a booking log
abbrev pub LOGLINES : ℕ
LOGLINES = 4096

-- the largest number of bytes of a booking log
abbrev pub LOGBYTES : ℕ
LOGBYTES = 65536

-- the largest amount of a line of a booking log, in halves
abbrev pub AMOUNT : ℕ
AMOUNT = 2 * SIZE

-- the largest number of pairs that are open together
abbrev pub OPEN : ℕ
OPEN = 512

-- the largest number of lines of a plan drawn by hand
abbrev pub PLANLINES : ℕ
PLANLINES = 1024

-- the largest number of bytes of a plan drawn by hand
abbrev pub PLANBYTES : ℕ
PLANBYTES = 65536

-- words of the table of paths: a set of links for each site
abbrev pub ROWS : ℕ
ROWS = WORDS * PLACES
