-- The report of a network: its bytes. Document 01, "The report, given whole".
use Rattle.std.specs.Prelude.{List, [], ◌∷◌, ◌++◌, map, ℕ, ◌-◌, length, get_or}
use Rattle.lists.specs.Numbers.{pick, look, upfrom}
use Rattle.model.specs.Flows.{sites, total}
use Rattle.model.specs.Trimming.{balanced}
use Rattle.model.specs.Cuts.{cut_size, cut_count, owner}
use Rattle.model.specs.Parts.{pair_list_of_parts}
use Rattle.model.specs.Whole.{set_size, set_count, odd_pieces}
use Rattle.model.specs.WholeLoads.{whole_loads, whole_owner}
use Rattle.model.specs.Text.{bytes}
use Rattle.model.specs.declared.Pair.{Pair}
use Rattle.sheet.specs.Sheet.{Network, ends_of, part}
unfoldable pub use Rattle.text_writers.specs.Fields.{digits, decimal, line}

-- the lines that f gives for each element of a list
unfoldable pub lines : {A : Type 0} → (A → List ℕ) → List A → List ℕ
lines f [] = []
lines f (a ∷ l) = f a ++ lines f l

-- ---- what the report shows

-- places are link positions from 0, and site numbers less 1; of `ends` they are the site numbers
pub record Plan : Type 0 where
  pub word : List ℕ
  pub names : ℕ → List ℕ
  pub size : ℕ
  pub ones : List ℕ
  pub twos : List ℕ
  pub capacities : List ℕ
  pub shown : List ℕ
  pub ends : List ℕ
  pub owners : List ℕ
  pub cut_sizes : List ℕ
  pub cut_counts : List ℕ
  pub before : List ℕ
  pub pairs : List Pair

-- the plan of a network whose names stand in the sheet s: it shows the balanced capacities (01: trimmed sizes), the ends,
-- the owner of each site (0 for none) and the size and count of each terminal cut (01: end sets), no further line, and the pair list over all parts
unfoldable pub plan_of : List ℕ → Network → Plan
plan_of s net =
    let n = length net.names in
    let ls = net.links in
    let c = look net.capacities in
    let terminal = look (ends_of net) in
    let trimmed = balanced ls n terminal net.capacities in
    record {
      word = bytes "plan";
      names = λ v. part s (get_or net.names (v - 1) (0, 0));
      size = n;
      ones = map (λ l. l.0) ls;
      twos = map (λ l. l.1) ls;
      capacities = net.capacities;
      shown = trimmed;
      ends = ends_of net;
      owners = map (owner ls c (look trimmed) terminal n) (sites n);
      cut_sizes = map (cut_size ls c (look trimmed)) (sites n);
      cut_counts = map (cut_count ls c (look trimmed) n) (sites n);
      before = [];
      pairs = pair_list_of_parts ls n (look trimmed) terminal;
    }

-- the line `Q`: the count of odd pieces (02, Card 2)
unfoldable pub odd_line : ℕ → List ℕ
odd_line k = line (bytes "Q" ∷ decimal k ∷ [])

-- the plan of a network in whole circuits (02, Card 2): it shows the loads in the place of the trimmed sizes, the sets that go with them, one line `Q`
-- before the pairs, and the pair list of the loads
unfoldable pub whole_of : List ℕ → Network → Plan
whole_of s net =
    let n = length net.names in
    let ls = net.links in
    let c = look net.capacities in
    let terminal = look (ends_of net) in
    let loads = whole_loads ls n terminal c in
    let owner = whole_owner ls n terminal c in
    record {
      word = bytes "whole";
      names = λ v. part s (get_or net.names (v - 1) (0, 0));
      size = n;
      ones = map (λ l. l.0) ls;
      twos = map (λ l. l.1) ls;
      capacities = net.capacities;
      shown = loads;
      ends = ends_of net;
      owners = map owner (sites n);
      cut_sizes = map (set_size ls c owner) (sites n);
      cut_counts = map (set_count n owner) (sites n);
      before = odd_line (odd_pieces ls n c owner);
      pairs = pair_list_of_parts ls n (look loads) terminal;
    }

-- ---- its lines

-- the heading, `plan` or `whole`: total in halves, number of pairs
unfoldable pub head_record : List ℕ → ℕ → ℕ → List ℕ
head_record word halves pairs = line (word ∷ decimal halves ∷ decimal pairs ∷ [])

-- `L`: names, given size, the size shown (trimmed size, or load)
unfoldable pub link_record : (ℕ → List ℕ) → ℕ → ℕ → ℕ → ℕ → List ℕ
link_record name a b capacity shown = line (bytes "L" ∷ name a ∷ name b ∷ decimal capacity ∷ decimal shown ∷ [])

unfoldable pub link_line : (ℕ → List ℕ) → List ℕ → List ℕ → List ℕ → List ℕ → ℕ → List ℕ
link_line name ones twos capacities shown j = link_record name (look ones j) (look twos j) (look capacities j) (look shown j)

-- the name of an owner, or `-` where there is none
unfoldable pub owner_name : (ℕ → List ℕ) → ℕ → List ℕ
owner_name name a = pick a 0 (bytes "-") (name a)

-- `N`: site, then the end whose set holds it, or `-`
unfoldable pub site_record : (ℕ → List ℕ) → ℕ → ℕ → List ℕ
site_record name x a = line (bytes "N" ∷ name x ∷ owner_name name a ∷ [])

unfoldable pub site_line : (ℕ → List ℕ) → List ℕ → ℕ → List ℕ
site_line name owners x = site_record name x (look owners (x - 1))

-- `X`: name, set size, count of sites in the set
unfoldable pub cut_record : (ℕ → List ℕ) → ℕ → ℕ → ℕ → List ℕ
cut_record name a size count = line (bytes "X" ∷ name a ∷ decimal size ∷ decimal count ∷ [])

-- for an end; no line for another site
unfoldable pub cut_line : (ℕ → List ℕ) → List ℕ → List ℕ → List ℕ → ℕ → List ℕ
cut_line name ends sizes counts a = pick (look ends a) 1 (cut_record name a (look sizes (a - 1)) (look counts (a - 1))) []

-- `P`: the two sites of a pair, amount in halves
unfoldable pub pair_line : (ℕ → List ℕ) → Pair → List ℕ
pair_line name e = line (bytes "P" ∷ name e.first ∷ name e.second ∷ decimal e.amount ∷ [])

-- the report (01: the report, given whole)
unfoldable pub report_of : Plan → List ℕ
report_of p =
    head_record p.word (total p.pairs) (length p.pairs)
    ++ lines (link_line p.names p.ones p.twos p.capacities p.shown) (upfrom 0 (length p.ones))
    ++ lines (site_line p.names p.owners) (sites p.size)
    ++ lines (cut_line p.names p.ends p.cut_sizes p.cut_counts) (sites p.size)
    ++ p.before
    ++ lines (pair_line p.names) p.pairs

-- the report of a network whose names stand in the sheet s
unfoldable pub report : List ℕ → Network → List ℕ
report s net = report_of (plan_of s net)

-- the report of a network in whole circuits (02: a second report, headed `whole`)
unfoldable pub whole_report : List ℕ → Network → List ℕ
whole_report s net = report_of (whole_of s net)

-- the line that the program prints for a refusal: `refused`, number, line
unfoldable pub refusal_line : ℕ → ℕ → List ℕ
refusal_line number k = line (bytes "refused" ∷ decimal number ∷ decimal k ∷ [])
