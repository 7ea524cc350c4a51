-- What is printed for each of two regions: a heading with its number and its sum, then the lines of its links.
-- Document 02, Card 10 (trimmed sizes in sheet order, and their sum).
use Rattle.std.specs.Prelude.{List, [], ◌∷◌, ◌++◌, ℕ}
use Rattle.model.specs.Text.{bytes}
use Rattle.model.specs.declared.Edition.{Edition}
use Rattle.text_writers.specs.Fields.{decimal, line}
use Rattle.region_report.specs.Lines.{links_text}

-- `region`: its number, its sum
unfoldable pub region_heading : ℕ → ℕ → List ℕ
region_heading number sum = line (bytes "region" ∷ decimal number ∷ decimal sum ∷ [])

-- the text of a region, by its sheet s and its trimmed sizes
unfoldable pub region_text : List Edition → ℕ → ℕ → List ℕ → List ℕ → List ℕ
region_text known number sum s sizes = region_heading number sum ++ links_text known s sizes
