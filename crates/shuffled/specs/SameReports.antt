-- What two reports say alike whose sheets hold the same records in different orders: by the bytes of the reports alone, and by what is read off them with
-- the sheets. Document 02, Card 14; names are the same as Card 4 reads them.
use Rattle.std.specs.Prelude.{List, ◌↔◌, ◌⊎◌, ◌≡◌, ℕ, ◌<◌, length}
use Rattle.model.specs.Flows.{Site, one, two}
use Rattle.model.specs.Text.{bytes}
use Rattle.text_fields.specs.Fields.{SameName}
use Rattle.text_records.specs.Records.{Record, records, first_line}
use Rattle.sheet_kinds.specs.LineKinds.{field}
use Rattle.sheet.specs.Sheet.{Network}
use Rattle.sheet_records.specs.SameRecords.{name_on, SameNames}
use Rattle.theory_shuffled.specs.Shuffled.{Stands, Shuffled}
use Rattle.demands.specs.Printed.{site_count, headed, last_field, EndSet, Printed, printed_trimmed, printed_owner}

-- ---- by the bytes of two reports

-- two `L` lines are of one link: the same two names in either order; and they show the same usable size and the same trimmed size
pub record SameLinkLine (l m : Record) : Type 0 where
  pub names : SameNames (field l 1) (field l 2) (field m 1) (field m 2)
  pub usable : field l 3 ≡ field m 3
  pub trimmed : last_field l ≡ last_field m

-- two `N` lines are of one site; and its set is that of one end, or `-` stands in both
pub record SameSiteLine (l m : Record) : Type 0 where
  pub site : SameName (field l 1) (field m 1)
  pub end : SameName (field l 2) (field m 2)

-- two `X` lines are of one end; and they show the same set size and the same count
pub record SameSetLine (l m : Record) : Type 0 where
  pub end : SameName (field l 1) (field m 1)
  pub size : field l 2 ≡ field m 2
  pub count : field l 3 ≡ field m 3

-- two reports have the same total in their headings
abbrev pub SameTotal : List ℕ → List ℕ → Type 0
SameTotal r q = field (first_line r) 1 ≡ field (first_line q) 1

-- two reports headed `plan` agree in the total, each link's trimmed size, each site's end set, each set size and each count; the lines may stand in
-- different orders
pub record SameReports (r q : List ℕ) : Type 0 where
  pub total : SameTotal r q
  pub links : Shuffled SameLinkLine (headed (bytes "L") (records r)) (headed (bytes "L") (records q))
  pub sites : Shuffled SameSiteLine (headed (bytes "N") (records r)) (headed (bytes "N") (records q))
  pub sets : Shuffled SameSetLine (headed (bytes "X") (records r)) (headed (bytes "X") (records q))

-- ---- by the numbers of sites and links on two sheets

module _ (s : List ℕ) (net : Network) (t : List ℕ) (other : Network) where
  -- site v of the sheet s and site w of the sheet t have the same name
  pub record SameSite (v w : ℕ) : Type 0 where
    pub here : Site (site_count net) v
    pub there : Site (site_count other) w
    pub name : SameName (name_on s net v) (name_on t other w)

  -- link i of the sheet s and link j of the sheet t join sites of the same names
  pub record SameLink (i j : ℕ) : Type 0 where
    pub here : i < length net.links
    pub there : j < length other.links
    pub sites : (SameSite (one net.links i) (one other.links j) × SameSite (two net.links i) (two other.links j))
        ⊎ (SameSite (one net.links i) (two other.links j) × SameSite (two net.links i) (one other.links j))

  -- each site and each link of the sheet s is one of the sheet t
  pub record EachIsThere : Type 0 where
    pub sites : (v : ℕ) → Site (site_count net) v → (w : ℕ) × SameSite v w
    pub links : (i : ℕ) → i < length net.links → (j : ℕ) × SameLink i j

-- what is printed for the sheet s is printed for the sheet t, sites and links matched by their names
pub record SamePrinted (s : List ℕ) (net : Network) (p : Printed) (t : List ℕ) (other : Network) (q : Printed) : Type 0 where
  pub there : EachIsThere s net t other
  pub back : EachIsThere t other s net
  -- the total
  pub total : p.total ≡ q.total
  -- each link's trimmed size
  pub trimmed : (i j : ℕ) → SameLink s net t other i j → printed_trimmed p i ≡ printed_trimmed q j
  -- each site's end set: site v is in the set of the end a just where the site of its name is in the set of the end of a's name
  pub members : (v w a b : ℕ) → SameSite s net t other v w → SameSite s net t other a b → (printed_owner p v ≡ a) ↔ (printed_owner q w ≡ b)
  -- each set size and count: each `X` line of the one has its like in the other
  pub sets : (x : EndSet) → Stands x p.sets
      → (y : EndSet) × Stands y q.sets × SameSite s net t other x.end y.end × (x.size ≡ y.size) × (x.count ≡ y.count)
