-- The outcome of writing a page of the exercise book, for every number of sites, every choice and every buffer: number, line, length, and the buffer after.
-- Document 02, Card 13; document 01, "The network sheet" (a lent list too short for its answer).
use Rattle.std.specs.Prelude.{cond, ◌&&◌, List, [], ◌++◌, ℕ, leb, ltb, length, drop, Result, Ok, Err}
use Rattle.theory_book.specs.Numbered.{choices_of, page_of}
use Rattle.book_lines.specs.Line.{text}
use Rattle.model.specs.Refusals.{refused_as, line_of}
use Rattle.model.specs.declared.Refusal.{Refusal}
-- document 01's number, line and length for each outcome
pub use Rattle.model.specs.Refusals.{number}

-- the outcome of writing a page: so many bytes, or a refusal
abbrev pub Outcome : Type 0
Outcome = Result ℕ Refusal

-- the line that is told
abbrev pub line_told : Outcome → ℕ
line_told = line_of

-- the length of the page; 0 of a refusal
abbrev pub length_told : Outcome → ℕ
length_told (Ok n) = n
length_told (Err r) = 0

-- the number of pages for n sites: a page for each choice of links between them, 2 to 5 sites
unfoldable pub choices : ℕ → ℕ
choices n = cond (leb 2 n && leb n 5) (choices_of n) 0

-- the text of the page of choice m for n sites, with sizes 0 to 2; empty where the book has no such page
unfoldable pub page : ℕ → ℕ → List ℕ
page n m = cond (ltb m (choices n)) (text (page_of 2 n m)) []

-- the outcome, and the lent buffer after
pub record Paged : Type 0 where
  pub outcome : Outcome
  pub buffer : List ℕ

-- a text into a buffer: 9 where it is longer than the buffer; the bytes after it keep their values
unfoldable pub deliver : List ℕ → List ℕ → Paged
deliver t b =
    cond (leb (length t) (length b))
    (record { outcome = Ok (length t); buffer = t ++ drop (length t) b })
    (record { outcome = refused_as 9 0; buffer = b })

-- the page of choice m for n sites into the buffer b
unfoldable pub page_into : ℕ → ℕ → List ℕ → Paged
page_into n m b = deliver (page n m) b
