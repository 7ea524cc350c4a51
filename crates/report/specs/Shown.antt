-- What a report is written from: names as ranges of the sheet, and lists with a place for each link, site and pair.
use Rattle.std.specs.Prelude.{◌≡◌, ◌≢◌, List, ℕ, ◌-◌, ◌*◌, ◌≤◌, ◌<◌, length, get_or, take}
use Rattle.model.specs.Limits.{LINKS, SITES, SIZE}
use Rattle.lists.specs.Numbers.{look}
use Rattle.model.specs.Flows.{total}
use Rattle.model.specs.declared.Pair.{Pair}
use Rattle.model.specs.declared.Pairs.{Pairs}
use Rattle.sheet.specs.Sheet.{part}
use Rattle.text_writers.specs.Wrote.{Room}
use Rattle.report.specs.Report.{Plan, report_of}

-- the name of site v, whose range in the sheet s stands at place v - 1 of two lists
abbrev pub name_by : List ℕ → List ℕ → List ℕ → ℕ → List ℕ
name_by s starts stops v = part s (look starts (v - 1), look stops (v - 1))

-- the plan that the lists show which a report is written from
abbrev pub shown_by : List ℕ → List ℕ → List ℕ → List ℕ → List ℕ → ℕ → List ℕ → List ℕ → List ℕ → List ℕ → List ℕ → List ℕ → List ℕ → List ℕ → Pairs → Plan
shown_by word before s starts stops n ones twos capacities shown ends owners sizes counts pairs = record {
  word = word;
  names = name_by s starts stops;
  size = n;
  ones = ones;
  twos = twos;
  capacities = capacities;
  shown = shown;
  ends = ends;
  owners = owners;
  cut_sizes = sizes;
  cut_counts = counts;
  before = before;
  pairs = take pairs.count pairs.list;
}

-- the range of a name is one of the sheet
pub record Named (s starts stops : List ℕ) (v : ℕ) : Type 0 where
  pub above : 1 ≤ v
  pub in_starts : v - 1 < length starts
  pub in_stops : v - 1 < length stops
  pub forward : look starts (v - 1) ≤ look stops (v - 1)
  pub within : look stops (v - 1) ≤ length s

-- so for the sites 1 .. n
abbrev pub AllNamed : List ℕ → List ℕ → List ℕ → ℕ → Type 0
AllNamed s starts stops n = (v : ℕ) → 1 ≤ v → v ≤ n → Named s starts stops v

-- lists of links between named sites, of one length
pub record Links (s starts stops ones twos capacities shown : List ℕ) : Type 0 where
  pub twos-length : length twos ≡ length ones
  pub capacities-length : length capacities ≡ length ones
  pub shown-length : length shown ≡ length ones
  pub named : (j : ℕ) → j < length ones → Named s starts stops (look ones j) × Named s starts stops (look twos j)

-- the owners of the sites 1 .. n, where there are any, are named
pub record Owners (s starts stops owners : List ℕ) (n : ℕ) : Type 0 where
  pub held : n ≤ length owners
  pub named : (i : ℕ) → i < n → look owners i ≢ 0 → Named s starts stops (look owners i)

-- what stands past the end of a list of pairs
abbrev pub no_pair_lem : Pair
no_pair_lem = record { first = 0; second = 0; amount = 0 }

-- the first n pairs of a list join named sites
pub record Paired (s starts stops : List ℕ) (pairs : List Pair) (n : ℕ) : Type 0 where
  pub few : n ≤ SITES
  pub held : n ≤ length pairs
  pub named : (i : ℕ) → i < n → Named s starts stops (get_or pairs i no_pair_lem).first × Named s starts stops (get_or pairs i no_pair_lem).second

-- what the writer of a report requires of the plan that its lists show
pub record CanWrite (s starts stops : List ℕ) (p : Plan) (pairs : Pairs) : Type 0 where
  pub few : p.size ≤ SITES
  pub named : AllNamed s starts stops p.size
  pub linked : Links s starts stops p.ones p.twos p.capacities p.shown
  pub owned : Owners s starts stops p.owners p.size
  pub sized : p.size ≤ length p.cut_sizes
  pub counted : p.size ≤ length p.cut_counts
  pub paired : Paired s starts stops pairs.list pairs.count
  pub small : total p.pairs ≤ 2 * (LINKS * SIZE)
  pub room : Room 0 (report_of p)
