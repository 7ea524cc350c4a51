-- What is asked of the planner, stated: the three demands, of what planning tells, of what a report says and of what the program prints.
-- Demand 1 is asked of either report; what else is asked of the report headed `whole` is in `AskedWhole`.
-- That it all holds is in `Demands`. What a plan is, and how a report is read off its bytes, is in `Printed`; load, fits and total are in `Flows`,
-- trimming (`balanced`) is in `Trimming`, end sets (`inStoppedCut`) in `Cuts`, reading a sheet (`readSheet`) in `Sheet`, the causes (`Refusal`) in `Causes`,
-- planning (`plannedBy`, with `planned` and `plannedWhole`) in `Outcome`.
use Rattle.std.specs.Prelude.{◌≡◌, ◌≢◌, ◌↔◌, ◌⊎◌, List, ◌++◌, map, ℕ, ◌-◌, ◌*◌, ◌≤◌, ◌<◌, length, get_or, drop}
use Rattle.model.specs.Edition.{editions}
use Rattle.lists.specs.Numbers.{count, look, Each}
use Rattle.model.specs.Flows.{Site, Fits, sites, load, total}
use Rattle.model.specs.Trimming.{balanced}
use Rattle.model.specs.Cuts.{in_stopped_cut}
use Rattle.model.specs.Text.{bytes}
use Rattle.model.specs.declared.Edition.{Edition}
use Rattle.model.specs.declared.Pair.{Pair}
use Rattle.theory_walk.specs.Sound.{arises, Ascending}
use Rattle.sheet_kinds.specs.LineKinds.{field}
use Rattle.sheet.specs.Sheet.{Network, refused, accepted, read_sheet, edition_of}
use Rattle.sheet.specs.Causes.{fields_at, Refusal}
use Rattle.sheet.specs.OwnLines.{OwnLine, OwnLinkLine}
use Rattle.sheet.specs.Answers.{SheetNumber}
use Rattle.sheet.specs.SheetTheorem.{IsNetwork}
use Rattle.report.specs.Report.{report, refusal_line}
use Rattle.planner.specs.Outcome.{Planned, number, line_of, length_of, Reporter, planned_by}
use Rattle.demands.specs.Printed.{IsPlan, site_count, is_end, records, first_line, ends_among, Printed, read_report, number_read, line_read}
use Rattle.demands.specs.Printed.{site_named, headed, printed_trimmed, printed_owner, printed_dash, set_size, size_sum}

-- ---- demand 1: a refusal with number and line and the buffer as it was, or a full report
-- (that the code does just this, without harm and to an end, for sheets and buffers of any length and content, is the contract of `planner`)

-- refused with number k and line l: the length is 0 and the buffer keeps its bytes
pub record Refused (k l : ℕ) (b : List ℕ) (p : Planned) : Type 0 where
  pub number-told : number p.outcome ≡ k
  pub line-told : line_of p.outcome ≡ l
  pub length-told : length_of p.outcome ≡ 0
  pub buffer_kept : p.buffer ≡ b

-- a full report r: number 0, line 0 and its length; the buffer holds r, and after r its bytes from before
pub record FullReport (r b : List ℕ) (p : Planned) : Type 0 where
  pub number-told : number p.outcome ≡ 0
  pub line-told : line_of p.outcome ≡ 0
  pub length-told : length_of p.outcome ≡ length r
  pub buffer_filled : p.buffer ≡ r ++ drop (length r) b

-- no cause of a refusal (1 to 8, 10 to 13, 17) holds of the sheet s
abbrev pub WithoutCause : List Edition → List ℕ → Type 0
WithoutCause known s = (k l : ℕ) → ¬ (Refusal (edition_of known s) s k l)

-- what planning the sheet s into the buffer b comes to, with the text of either report: the sheet is refused for a cause of its own, with that cause's number
-- and line; or it has no such cause, and its report is longer than the buffer; or it has no such cause and gets its full report
pub data Demand1 (text : Reporter) (known : List Edition) (s b : List ℕ) : Type 0 where
  faulty_sheet : (k l : ℕ) → read_sheet known s ≡ refused k l → Refusal (edition_of known s) s k l → SheetNumber (edition_of known s).sizing k
      → Refused k l b (planned_by text known s b) → Demand1 text known s b
  long-report : WithoutCause known s → (net : Network) → read_sheet known s ≡ accepted net → length b < length (text s net)
      → Refused 9 0 b (planned_by text known s b) → Demand1 text known s b
  full_report : WithoutCause known s → (net : Network) → read_sheet known s ≡ accepted net → length (text s net) ≤ length b
      → FullReport (text s net) b (planned_by text known s b) → Demand1 text known s b

-- ---- demands 2 and 3, of a network and of what is printed for it

-- the report is headed by `word` and shows the sheet: the `L` lines are its links, with their usable sizes, and the `N` lines its sites, in its order
pub record ShowsSheet (word : List ℕ) (net : Network) (p : Printed) : Type 0 where
  pub heading : p.heading ≡ word
  pub links : p.links ≡ net.links
  pub sizes : p.sizes ≡ net.capacities
  pub sites-shown : p.sites ≡ sites (site_count net)

-- the largest total
pub record Demand2 (net : Network) (p : Printed) : Type 0 where
  -- no plan that fits the usable sizes, k parts to a circuit, has a larger total: in circuits, total fs / k is at most the printed total / 2
  pub largest : (fs : List Pair) → IsPlan net.links (site_count net) (is_end net) fs → (k : ℕ) → 1 ≤ k → Fits net.links k (look net.capacities) fs
      → 2 * total fs ≤ k * p.total
  -- the printed pairs are a plan in halves, each pair once; it fits, and it reaches that total
  pub printed_plan : IsPlan net.links (site_count net) (is_end net) p.plan
  pub once : (x y : ℕ) → arises p.plan x y ≤ 1
  pub printed_plan_fits : Fits net.links 2 (look net.capacities) p.plan
  pub reached : total p.plan ≡ p.total
  -- on no more pairs than there are links; the pair count is the number of `P` lines
  pub few : length p.plan ≤ length net.links
  pub counted : p.pair_count ≡ length p.plan
  -- the printed set of an end a is what a reaches over links whose printed trimmed size is below the usable one (01: below the given size), without passing
  -- or taking in another end (02, Card 7: end sets stop at ends other than their own)
  pub set-members : (a x : ℕ) → Site (site_count net) a → is_end net a ≡ 1 → Site (site_count net) x
      → (printed_owner p x ≡ a) ↔ (in_stopped_cut net.links (look net.capacities) (printed_trimmed p) (is_end net) a x ≡ 1)
  -- `-` exactly where no end set holds the site
  pub dash-without-set : (x : ℕ) → Site (site_count net) x
      → (printed_dash p x ≡ 1)
      ↔ ((a : ℕ) → Site (site_count net) a → is_end net a ≡ 1 → in_stopped_cut net.links (look net.capacities) (printed_trimmed p) (is_end net) a x ≢ 1)
  -- the `X` lines are those of the ends, with the size and the count of the printed set
  pub set_of_each_end : map (λ x. x.end) p.sets ≡ ends_among (is_end net) (sites (site_count net))
  pub size_of_each_set : Each (λ x. (x.size ≡ set_size p x.end) × (x.count ≡ count p.owners x.end)) p.sets
  -- the sizes sum to twice the total in circuits, that is to the printed total in halves
  pub sizes-sum : size_sum p.sets ≡ p.total

-- the printed plan in order, and the printed owners; of either report
pub record InOrder (net : Network) (p : Printed) : Type 0 where
  -- no amount is 0; the lower-numbered site stands first in each pair; the pairs ascend by first, then second
  pub positive : Each (λ e. 1 ≤ e.amount) p.plan
  pub lower-first : Each (λ e. e.first < e.second) p.plan
  pub ascending : Ascending p.plan
  -- one owner for each site: `-`, which is read as 0, or an end
  pub owner_of_each_site : length p.owners ≡ site_count net
  pub dash-or-end : (x : ℕ) → Site (site_count net) x
      → (printed_dash p x ≡ 1) ⊎ (Site (site_count net) (printed_owner p x) × (is_end net (printed_owner p x) ≡ 1))
  pub dash-is-none : (x : ℕ) → Site (site_count net) x → (printed_dash p x ≡ 1) ↔ (printed_owner p x ≡ 0)

-- the trimmed sizes
pub record Demand3 (net : Network) (p : Printed) : Type 0 where
  -- whatever plan fits the usable sizes, k parts to a circuit: its load on each link is at most that link's printed trimmed size
  pub bounded : (fs : List Pair) → IsPlan net.links (site_count net) (is_end net) fs → (k : ℕ) → 1 ≤ k → Fits net.links k (look net.capacities) fs
      → (j : ℕ) → j < length net.links → load net.links fs j ≤ k * printed_trimmed p j
  -- the printed plan fits too, and its load, in halves, is twice the printed trimmed size on every link at once
  pub printed_plan : IsPlan net.links (site_count net) (is_end net) p.plan
  pub printed_plan_fits : Fits net.links 2 (look net.capacities) p.plan
  pub filled : (j : ℕ) → j < length net.links → load net.links p.plan j ≡ 2 * printed_trimmed p j
  -- the printed trimmed sizes are those that trimming gives, of which two theorems in `Demands` speak
  pub trimmed : p.shown ≡ balanced net.links (site_count net) (is_end net) net.capacities

-- ---- all of it, of the bytes told or printed

-- the printed size of each link is the usable size on the link's own line: the size there less the reserve there, or the size where there is no
-- reserve (02, Card 5: the `L` line of a report prints the usable size as its fourth field)
abbrev pub SizesAsGiven : List Edition → List ℕ → Network → Printed → Type 0
SizesAsGiven known s net p = (j : ℕ) → j < length net.links → OwnLinkLine (edition_of known s) s j (get_or net.links j (0, 0)) (look p.sizes j)

-- a name f in a report is spelt as on the `N` line of its site (02, Card 4; Card 7: or `T` line): some site has the name f, in either case, and f is the
-- name on that site's own line, byte for byte
pub record SpeltAsGiven (known : List Edition) (s : List ℕ) (net : Network) (f : List ℕ) : Type 0 where
  pub site : ℕ
  pub is-site : Site (site_count net) site
  pub named : site_named s net f ≡ site
  pub line : OwnLine (edition_of known s) s (site - 1) (get_or net.names (site - 1) (0, 0)) (look net.marks (site - 1))
  pub name : f ≡ field (fields_at s line.offset) 1

-- so is every name in the report r: in its `L` lines, its `N` lines, where `-` stands for no owner, its `X` lines and its `P` lines
pub record NamesAsGiven (known : List Edition) (s : List ℕ) (net : Network) (r : List ℕ) : Type 0 where
  pub links : Each (λ l. SpeltAsGiven known s net (field l 1) × SpeltAsGiven known s net (field l 2)) (headed (bytes "L") (records r))
  pub sites : Each (λ l. SpeltAsGiven known s net (field l 1) × ((field l 2 ≡ bytes "-") ⊎ SpeltAsGiven known s net (field l 2)))
      (headed (bytes "N") (records r))
  pub sets : Each (λ l. SpeltAsGiven known s net (field l 1)) (headed (bytes "X") (records r))
  pub pairs : Each (λ l. SpeltAsGiven known s net (field l 1) × SpeltAsGiven known s net (field l 2)) (headed (bytes "P") (records r))

-- the bytes r are the full report on the sheet s: that of its network, a tree; they show the sheet, with the usable sizes of its links, spell its names as
-- given and meet demands 2 and 3
pub record IsReport (known : List Edition) (s r : List ℕ) : Type 0 where
  pub net : Network
  pub read : read_sheet known s ≡ accepted net
  pub network : IsNetwork (edition_of known s) s net
  pub whole : r ≡ report s net
  pub shows_the_sheet : ShowsSheet (bytes "plan") net (read_report s net r)
  pub sizes : SizesAsGiven known s net (read_report s net r)
  pub names : NamesAsGiven known s net r
  pub meets_demand_2 : Demand2 net (read_report s net r)
  pub is_in_order : InOrder net (read_report s net r)
  pub meets_demand_3 : Demand3 net (read_report s net r)

-- the bytes r are the line of a refusal of the sheet s: one line, `refused`, a number of the table (1 to 8, 10 to 13, 17) and a line; the number
-- and the line read off it have their cause
pub record IsRefusal (known : List Edition) (s r : List ℕ) : Type 0 where
  pub one_line : length (records r) ≡ 1
  pub three-fields : length (first_line r) ≡ 3
  pub heading : field (first_line r) 0 ≡ bytes "refused"
  pub cause : Refusal (edition_of known s) s (number_read r) (line_read r)
  pub of_the_table : SheetNumber (edition_of known s).sizing (number_read r)
  pub whole : r ≡ refusal_line (number_read r) (line_read r)

-- what a program prints for the sheet s: its full report, where it has no cause of a refusal; or the line of its refusal, which is never 9.
-- What a full report is, Full says: `IsReport`, or `IsWholeReport` of the program `whole`
pub data Prints (Full : List Edition → List ℕ → List ℕ → Type 0) (s r : List ℕ) : Type 0 where
  a_full_report : WithoutCause editions s → Full editions s r → Prints Full s r
  a-refusal : IsRefusal editions s r → Prints Full s r
