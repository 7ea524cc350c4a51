-- One region by itself: its first step, from its own sheet and the two shared names, and its second, from these and the neighbour's number; number, line,
-- values, and the lent list after. Document 02, Card 10 (18: what one sheet alone can show of it), and Card 3 (a lent list keeps its values).
use Rattle.std.specs.Prelude.{cond, ◌&&◌, List, ◌++◌, ℕ, leb, ltb, length, drop, Result, Ok, Err}
use Rattle.lists.specs.Numbers.{look}
use Rattle.model.specs.Refusals.{refused_as}
use Rattle.model.specs.declared.Edition.{Edition}
use Rattle.model.specs.declared.Refusal.{Refusal}
use Rattle.sheet_names.specs.Names.{lookup}
use Rattle.sheet.specs.Sheet.{Network, Read, refused, accepted, read_sheet}
use Rattle.theory_regions.specs.Regions.{Region, first_size, Given, given}
use Rattle.region_links.specs.Partners.{site_found}
use Rattle.exchanges.specs.Shared.{region_of}
use Rattle.side_links.specs.SharedLink.{link_of}
use Rattle.exchanges.specs.declared.Answer.{Answer}
-- the papers' number and line for each outcome of either step: success is number 0 and line 0
pub use Rattle.model.specs.Refusals.{number, line_of}

-- ---- the shared link

-- the number of the site that has a name, in either case; 0 where there is none
abbrev pub site_of : List ℕ → Network → List ℕ → ℕ
site_of s net name = site_found (lookup s net.names name)

-- the link that two names mean
abbrev pub link_named : List ℕ → Network → List ℕ → List ℕ → ℕ
link_named s net name name' = link_of (region_of net) (site_of s net name) (site_of s net name')

-- ---- the first step

-- the outcome of the first step: the size that is shown, or a refusal
abbrev pub First : Type 0
First = Result ℕ Refusal

-- a size shown
abbrev pub shown_as : ℕ → First
shown_as size = Ok size

-- the value that is told
abbrev pub size_of : First → ℕ
size_of (Ok size) = size
size_of (Err r) = 0

-- the region shows its first trimmed size of link j; 18 where there is no such link
unfoldable pub show_over : Region → ℕ → First
show_over a j = cond (ltb j (length a.links)) (shown_as (first_size a j)) (refused_as 18 0)

-- over a sheet that is read; the sheet's refusals come first
unfoldable pub show_read : List ℕ → List ℕ → List ℕ → Read → First
show_read s name name' (refused k line) = refused_as k line
show_read s name name' (accepted net) = show_over (region_of net) (link_named s net name name')

-- the first step over the sheet s with the two shared names
unfoldable pub first_shown : List Edition → List ℕ → List ℕ → List ℕ → First
first_shown known s name name' = show_read s name name' (read_sheet known s)

-- ---- the second step

-- the outcome of the second step: the number of trimmed sizes and their sum over its own ends' links, or a refusal
abbrev pub Outcome : Type 0
Outcome = Result Answer Refusal

-- a count of trimmed sizes and their sum
abbrev pub answered_as : ℕ → ℕ → Outcome
answered_as count sum = Ok (record { count = count; sum = sum })

-- the values that are told
abbrev pub count_of : Outcome → ℕ
count_of (Ok a) = a.count
count_of (Err r) = 0

abbrev pub sum_of : Outcome → ℕ
sum_of (Ok a) = a.sum
sum_of (Err r) = 0

-- the outcome, and the lent list after
pub record Side : Type 0 where
  pub outcome : Outcome
  pub list : List ℕ

-- refused: the list keeps its values
abbrev pub refusal : ℕ → ℕ → List ℕ → Side
refusal k line l = record { outcome = refused_as k line; list = l }

-- what a region is given, told and lent back: the trimmed sizes, in sheet order; the places after them keep their values
abbrev pub delivered : Given → List ℕ → Side
delivered u l = record { outcome = answered_as (length u.sizes) u.sum; list = u.sizes ++ drop (length u.sizes) l }

-- the region is given, for the neighbour's number, its answer with link j as the shared one: 18 where there is no such link, or where the number passes its
-- usable size, as no neighbour's first trimmed size does; then 9 where the list has fewer places than there are links
unfoldable pub answer_over : Region → ℕ → ℕ → List ℕ → Side
answer_over a j told l =
    cond (ltb j (length a.links) && leb told (look a.capacities j))
    (cond (leb (length a.links) (length l)) (delivered (given a j told) l) (refusal 9 0 l))
    (refusal 18 0 l)

-- over a sheet that is read; the sheet's refusals come first
unfoldable pub answer_read : List ℕ → List ℕ → List ℕ → ℕ → List ℕ → Read → Side
answer_read s name name' told l (refused k line) = refusal k line l
answer_read s name name' told l (accepted net) = answer_over (region_of net) (link_named s net name name') told l

-- the second step over the sheet s with the two shared names and the number that the neighbour told, into the lent list l
unfoldable pub answered : List Edition → List ℕ → List ℕ → List ℕ → ℕ → List ℕ → Side
answered known s name name' told l = answer_read s name name' told l (read_sheet known s)
