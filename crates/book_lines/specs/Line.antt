-- The text of the exercise book: a line for each entry, its links, its sizes and its total in halves.
-- Document 02, Card 13 (`1-2,1-3`, tab, `1,2`, tab, `2`).
use mathlib.Core.List.{List, [], ◌∷◌, ◌++◌, map, flat_map}
use Rattle.std.specs.Prelude.{ℕ}
use Rattle.model.specs.Flows.{Links}
use Rattle.text_writers.specs.Fields.{decimal, line}
use Rattle.theory_book.specs.Book.{Entry, halves}

-- a link as lower and higher number, `-` between them
unfoldable pub link_text : ℕ × ℕ → List ℕ
link_text l = decimal l.0 ++ (45 ∷ decimal l.1)

-- texts parted by commas
unfoldable pub commas : List (List ℕ) → List ℕ
commas [] = []
commas (f ∷ []) = f
commas (f ∷ g ∷ fs) = f ++ (44 ∷ commas (g ∷ fs))

-- the line of links with their sizes and a total in halves
unfoldable pub line_with : Links → List ℕ → ℕ → List ℕ
line_with ls c total = line (commas (map link_text ls) ∷ commas (map decimal c) ∷ decimal total ∷ [])

-- the line of an entry
unfoldable pub line_of : Entry → List ℕ
line_of e = line_with e.links e.sizes (halves e)

-- the lines of entries, one after another
unfoldable pub text : List Entry → List ℕ
text es = flat_map line_of es
