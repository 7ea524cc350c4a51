-- The network sheet of an entry of the exercise book: sites `s1`, `s2`, .. in number order, its links with its sizes, no marks, no reserve.
-- Document 02, Card 13; the lines are those of document 01, "The network sheet".
use mathlib.Core.List.{List, [], ◌∷◌, ◌++◌, flat_map}
use Rattle.std.specs.Prelude.{ℕ}
use Rattle.model.specs.Flows.{Links, sites}
use Rattle.model.specs.Text.{bytes}
use Rattle.text_writers.specs.Fields.{decimal, line}
use Rattle.theory_book.specs.Book.{Entry}

-- the name of site v: `s` and its number
abbrev pub site_name : ℕ → List ℕ
site_name v = 115 ∷ decimal v

-- the fields of the heading, of a site line and of a link line
abbrev pub heading : List (List ℕ)
heading = bytes "network" ∷ bytes "1" ∷ []

abbrev pub site_row : ℕ → List (List ℕ)
site_row v = bytes "N" ∷ site_name v ∷ []

abbrev pub link_row : ℕ × ℕ → ℕ → List (List ℕ)
link_row l size = bytes "L" ∷ site_name l.0 ∷ site_name l.1 ∷ decimal size ∷ []

-- a line for each site
unfoldable pub site_lines : List ℕ → List ℕ
site_lines vs = flat_map (λ v. line (site_row v)) vs

-- a line for each link with its size
unfoldable pub link_lines : Links → List ℕ → List ℕ
link_lines [] cs = []
link_lines (l ∷ ls) [] = []
link_lines (l ∷ ls) (c ∷ cs) = line (link_row l c) ++ link_lines ls cs

-- the sheet
unfoldable pub sheet_of : Entry → List ℕ
sheet_of e = line heading ++ (site_lines (sites e.sites) ++ link_lines e.links e.sizes)
