-- The lines of a region's links as the programs print them.
-- Document 02, Card 10 (trimmed sizes in sheet order), and Card 4 (names spelt as on their site lines).
use Rattle.std.specs.Prelude.{List, [], ◌∷◌, ◌++◌, ℕ, zero, suc, ◌-◌, length}
use Rattle.lists.specs.Numbers.{look}
use Rattle.model.specs.Flows.{Links, one, two}
use Rattle.model.specs.Text.{bytes}
use Rattle.model.specs.declared.Edition.{Edition}
use Rattle.text_writers.specs.Fields.{decimal, line}
use Rattle.sheet_names.specs.Names.{name_at}
use Rattle.sheet.specs.Sheet.{Read, refused, accepted, read_sheet}

-- `L`: names, trimmed size
unfoldable pub link_record : (ℕ → List ℕ) → ℕ → ℕ → ℕ → List ℕ
link_record name a b size = line (bytes "L" ∷ name a ∷ name b ∷ decimal size ∷ [])

-- the lines of the first links, in sheet order
unfoldable pub link_lines : (ℕ → List ℕ) → Links → List ℕ → ℕ → List ℕ
link_lines name ls sizes zero = []
link_lines name ls sizes (suc j) = link_lines name ls sizes j ++ link_record name (one ls j) (two ls j) (look sizes j)

-- the name of site x, as its line spells it
abbrev pub spelt : List ℕ → List (ℕ × ℕ) → ℕ → List ℕ
spelt s names x = name_at s names (x - 1)

-- the lines of a sheet that is read; none where it is refused
unfoldable pub links_read : List ℕ → List ℕ → Read → List ℕ
links_read s sizes (refused k line) = []
links_read s sizes (accepted net) = link_lines (spelt s net.names) net.links sizes (length net.links)

-- the lines of the links of the sheet s with these trimmed sizes
unfoldable pub links_text : List Edition → List ℕ → List ℕ → List ℕ
links_text known s sizes = links_read s sizes (read_sheet known s)
