-- What the demands speak of: plans; and what a report says, read off its bytes alone: lines, fields and numbers, and from them the printed
-- total, sizes, end sets and plan; and what the line of a refusal says. Document 01, "Plans, trimmed sizes, end sets" and "The report, given whole";
-- 02, Card 2 (the report headed `whole`).
use Rattle.std.specs.Prelude.{Option, unwrap_or, cond, List, [], ◌∷◌, map, ℕ, ◌+◌, ◌-◌, length, get_or, take}
use Rattle.lists.specs.Numbers.{pick, look}
use Rattle.model.specs.Flows.{Links, Multiflow}
use Rattle.model.specs.Text.{bytes}
use Rattle.model.specs.Whole.{set_size as sizeBy}
use Rattle.model.specs.declared.Pair.{Pair}
use Rattle.sheet_kinds.specs.LineKinds.{field, same, value}
use Rattle.sheet.specs.Sheet.{Network, ends_of, lookup}
use Rattle.planner.specs.Outcome.{Planned, length_of, Answer}
-- the lines of a text, each as its fields
pub use Rattle.text_records.specs.Records.{Record}
unfoldable pub use Rattle.text_records.specs.Records.{lines_of, records, first_line}

-- ---- plans

-- a plan of a tree with n sites, `end` being 1 at an end: amounts for pairs of different ends (01: plan), of which none has another end on its path
-- (02, Card 7: such a pair takes no amount); in which parts of a circuit is said beside it
abbrev pub IsPlan : Links → ℕ → (ℕ → ℕ) → List Pair → Type 0
IsPlan = Multiflow

-- the number of sites of a network, and its ends: 1 at an end
abbrev pub site_count : Network → ℕ
site_count net = length net.names

abbrev pub is_end : Network → ℕ → ℕ
is_end net = look (ends_of net)

-- ---- lines and fields

-- the lines whose first field is k
unfoldable pub headed : List ℕ → List Record → List Record
headed k [] = []
headed k (l ∷ ls) = cond (same (field l 0) k) (l ∷ headed k ls) (headed k ls)

-- the last field of a line
abbrev pub last_field : Record → List ℕ
last_field l = field l (length l - 1)

-- ---- sites

-- the ends among some sites, in their order (01: end)
unfoldable pub ends_among : (ℕ → ℕ) → List ℕ → List ℕ
ends_among end [] = []
ends_among end (v ∷ vs) = pick (end v) 1 (v ∷ ends_among end vs) (ends_among end vs)

-- the number of a site that is found, 0 where none is
unfoldable pub site_found : Option ℕ → ℕ
site_found found = unwrap_or found 0

-- the site that the sheet s, read as net, gives the name f; 0 where it gives none, as for `-`
unfoldable pub site_named : List ℕ → Network → List ℕ → ℕ
site_named s net f = site_found (lookup s net.names f)

-- ---- the report

-- 1 if an owner is printed as `-`, 0 if not
unfoldable pub dash : List ℕ → ℕ
dash f = cond (same f (bytes "-")) 1 0

-- an `X` line: an end, the size of its set, the count of sites in the set
pub record EndSet : Type 0 where
  pub end : ℕ
  pub size : ℕ
  pub count : ℕ

-- what a report says: line 1 (heading, total in halves, number of pairs); of the `L` lines the two sites, the usable size and the size shown;
-- of the `N` lines the site, the end whose set holds it, 0 for `-`, and 1 where `-` stands; the `X` lines; of the `Q` lines the number;
-- the `P` lines (two sites, amount in halves)
pub record Printed : Type 0 where
  pub heading : List ℕ
  pub total : ℕ
  pub pair_count : ℕ
  pub links : Links
  pub sizes : List ℕ
  pub shown : List ℕ
  pub sites : List ℕ
  pub owners : List ℕ
  pub dashes : List ℕ
  pub sets : List EndSet
  pub pieces : List ℕ
  pub plan : List Pair

-- a report read line by line, its names turned to sites by `site`
unfoldable pub read_records : (List ℕ → ℕ) → List Record → Printed
read_records site rs =
    let first = get_or rs 0 [] in
    let link_lines = headed (bytes "L") rs in
    let site_lines = headed (bytes "N") rs in
    record {
      heading = field first 0;
      total = value (field first 1);
      pair_count = value (field first 2);
      links = map (λ l. (site (field l 1), site (field l 2))) link_lines;
      sizes = map (λ l. value (field l 3)) link_lines;
      shown = map (λ l. value (last_field l)) link_lines;
      sites = map (λ l. site (field l 1)) site_lines;
      owners = map (λ l. site (field l 2)) site_lines;
      dashes = map (λ l. dash (field l 2)) site_lines;
      sets = map (λ l. record { end = site (field l 1); size = value (field l 2); count = value (field l 3) }) (headed (bytes "X") rs);
      pieces = map (λ l. value (field l 1)) (headed (bytes "Q") rs);
      plan = map (λ l. record { first = site (field l 1); second = site (field l 2); amount = value (field l 3) }) (headed (bytes "P") rs);
    }

-- what the bytes r say, as a report on the sheet s, read as net
unfoldable pub read_report : List ℕ → Network → List ℕ → Printed
read_report s net r = read_records (site_named s net) (records r)

-- the bytes in the buffer after planning, as many as the outcome tells
unfoldable pub bytes_told : Planned → List ℕ
bytes_told p = take (length_of p.outcome) p.buffer

-- what they say
abbrev pub printed_by : List ℕ → Network → Planned → Printed
printed_by s net p = read_report s net (bytes_told p)

-- ---- what the program prints

-- the bytes that the program prints: the first of the buffer after, as many as the answer tells
unfoldable pub bytes_printed : Answer → List ℕ
bytes_printed a = take a.length a.buffer

-- of the line of a refusal the number and the line
abbrev pub number_read : List ℕ → ℕ
number_read r = value (field (first_line r) 1)

abbrev pub line_read : List ℕ → ℕ
line_read r = value (field (first_line r) 2)

-- ---- the printed sizes

-- the printed trimmed size of link j: headed `plan`, the size shown (01: the last field of its `L` line)
abbrev pub printed_trimmed : Printed → ℕ → ℕ
printed_trimmed p j = look p.shown j

-- the printed load of link j in circuits: headed `whole`, the size shown (02: `L` lines show the load in place of the trimmed size)
abbrev pub printed_load : Printed → ℕ → ℕ
printed_load p j = look p.shown j

-- ---- the printed end sets

-- the end whose printed set holds site v, 0 for `-`
abbrev pub printed_owner : Printed → ℕ → ℕ
printed_owner p v = look p.owners (v - 1)

-- 1 if the owner of site v is printed as `-`, 0 if not
abbrev pub printed_dash : Printed → ℕ → ℕ
printed_dash p v = look p.dashes (v - 1)

-- the size of the printed set of end a: the printed usable sizes of the links with just one of their sites in it (01: size of a set)
abbrev pub set_size : Printed → ℕ → ℕ
set_size p a = sizeBy p.links (look p.sizes) (printed_owner p) a

-- the printed sizes of the end sets, summed
unfoldable pub size_sum : List EndSet → ℕ
size_sum [] = 0
size_sum (x ∷ xs) = x.size + size_sum xs
