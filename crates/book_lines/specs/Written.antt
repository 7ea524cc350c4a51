-- What the writers of the exercise book require and leave: so many bytes at most, links between few sites, the line at a place.
-- Beside the definitions of 02, Card 13, in `Line` and `theory_book`.
use Rattle.std.specs.Prelude.{◌≡◌, ℕ, suc, ◌+◌, ◌-◌, ◌≤◌, length}
use mathlib.Core.List.{List, [], flat_map}
use Rattle.lists.specs.Numbers.{pick, upfrom}
use Rattle.model.specs.Flows.{Links, sites}
use Rattle.tree.specs.Offer.{links}
use Rattle.text_writers.specs.Wrote.{Wrote}
use Rattle.theory_book.specs.Book.{joins_all}
use Rattle.theory_book.specs.Numbered.{word}
use Rattle.theory_book.specs.Trees.{Between}
use Rattle.book_lines.specs.Line.{line_of}

-- a text is written, and it has at most `most` bytes
pub record Put (most : ℕ) (before : List ℕ) (at : ℕ) (written after : List ℕ) (r : ℕ) : Type 0 where
  pub wrote : Wrote before at written after r
  pub short : r ≤ at + most

-- one link less than 2 to 5 sites, between lower and higher numbers of sites
pub record Joins (n : ℕ) (one two : List ℕ) : Type 0 where
  pub least : 2 ≤ n
  pub most : n ≤ 5
  pub firsts : n ≡ suc (length one)
  pub seconds : n ≡ suc (length two)
  pub between : Between n (links one two)

-- the line of links with their sizes, where the links join all sites
unfoldable pub line_if : ℕ → Links → List ℕ → List ℕ
line_if n ls c = pick (joins_all ls (sites n)) 1 (line_of (record { sites = n; links = ls; sizes = c })) []

-- the lines of links with the lists of sizes at the first places
unfoldable pub lines_up_to : ℕ → ℕ → Links → List ℕ
lines_up_to count n ls = flat_map (λ s. line_if n ls (word 3 (n - 1) s)) (upfrom 0 count)
