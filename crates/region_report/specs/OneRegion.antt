-- What is printed for one region by itself: in its first step the size that it shows, in its second a heading with its sum, then the lines of its links.
-- Document 02, Card 10 (only one number is shown; trimmed sizes in sheet order, and their sum).
use Rattle.std.specs.Prelude.{List, [], ◌∷◌, ◌++◌, ℕ}
use Rattle.model.specs.Text.{bytes}
use Rattle.model.specs.declared.Edition.{Edition}
use Rattle.text_writers.specs.Fields.{decimal, line}
use Rattle.region_report.specs.Lines.{links_text}

-- `first`: its first trimmed size of the shared link
unfoldable pub first_text : ℕ → List ℕ
first_text size = line (bytes "first" ∷ decimal size ∷ [])

-- `region`: its sum; then the lines of its links, by its sheet s and its trimmed sizes
unfoldable pub answer_text : List Edition → ℕ → List ℕ → List ℕ → List ℕ
answer_text known sum s sizes = line (bytes "region" ∷ decimal sum ∷ []) ++ links_text known s sizes
