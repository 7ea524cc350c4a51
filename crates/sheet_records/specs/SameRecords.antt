-- The records of a network sheet, and what it is that two sheets hold the same records in different orders.
-- Document 02, Card 14, with Card 4 (names in either case), Card 5 (the reserve of a link) and Card 7 (the letter of a marked site).
use Rattle.std.specs.Prelude.{List, [], ◌∷◌, ◌++◌, ◌⊎◌, ◌≡◌, ℕ, ◌-◌, ◌≤◌, length, get_or, drop}
use Rattle.model.specs.declared.Edition.{Edition}
use Rattle.model.specs.declared.Sizing.TheVariants.{Reserved}
use Rattle.text_lines.specs.Lines.{line_at}
use Rattle.text_fields.specs.Fields.{SameName}
use Rattle.text_records.specs.Records.{Record, records}
use Rattle.sheet_kinds.specs.LineKinds.{field, IsSite, IsLink, size, reserve}
use Rattle.sheet_names.specs.Names.{name_at}
use Rattle.sheet.specs.Sheet.{Network}
use Rattle.theory_shuffled.specs.Shuffled.{Stands, Shuffled}

-- the records of a sheet: its lines below the heading, each as its fields
unfoldable pub records_of : List ℕ → List Record
records_of s = drop 1 (records s)

-- the name of site v of a network, as the sheet spells it
abbrev pub name_on : List ℕ → Network → ℕ → List ℕ
name_on s net v = name_at s net.names (v - 1)

-- the names a and b are the names c and d, in either order
abbrev pub SameNames : List ℕ → List ℕ → List ℕ → List ℕ → Type 0
SameNames a b c d = (SameName a c × SameName b d) ⊎ (SameName a d × SameName b c)

-- two records are the same
pub data SameRecord (r q : Record) : Type 0 where
  -- site records with the same letter and the same name
  same-site : IsSite r → IsSite q → field r 0 ≡ field q 0 → SameName (field r 1) (field q 1) → SameRecord r q
  -- link records with the same two names in either order, the same size and the same reserve, which is 0 where there is none
  same-link : IsLink Reserved r → IsLink Reserved q → SameNames (field r 1) (field r 2) (field q 1) (field q 2) → size r ≡ size q → reserve r ≡ reserve q
      → SameRecord r q

-- two sheets hold the same records in different orders (02: a link record with its names exchanged counts as the same record)
abbrev pub SameRecords : List ℕ → List ℕ → Type 0
SameRecords s t = Shuffled SameRecord (records_of s) (records_of t)

-- ---- lines in an order that can be read

-- f is the name of a site record among some
abbrev pub GivenAmong : List Record → List ℕ → Type 0
GivenAmong above f = (q : Record) × Stands q above × IsSite q × SameName (field q 1) f

-- each link of some records stands below its two sites, the records above those being given (01: a link names two sites given on lines above it)
abbrev pub LinksBelow : List Record → List Record → Type 0
LinksBelow above [] = Unit {0}
LinksBelow above (r ∷ rs) = (IsLink Reserved r → GivenAmong above (field r 1) × GivenAmong above (field r 2)) × LinksBelow (above ++ (r ∷ [])) rs

-- so on a sheet
abbrev pub EachLinkBelowItsSites : List ℕ → Type 0
EachLinkBelowItsSites t = LinksBelow [] (records_of t)

-- the sheet t has the heading of the sheet s, every line of t is ended, and t is within the bytes of an edition
pub record SameFrame (ed : Edition) (s t : List ℕ) : Type 0 where
  pub heading : line_at t 0 ≡ line_at s 0
  pub ended : get_or t (length t - 1) 0 ≡ 10
  pub short : length t ≤ ed.bytes
