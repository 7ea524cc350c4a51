-- The exercise book: every tree of so many sites with every list of sizes up to a greatest one, in the card's order, and the total of each.
-- Document 02, Card 13 (tree, links, sizes, order, total in halves). First what stands in it and in which order, then how it is listed.
use Rattle.std.specs.Prelude.{◌≡◌, ◌⊎◌, ℕ, suc, ◌+◌, ◌*◌, ◌-◌, ◌≤◌, ◌<◌, length, replicate}
use mathlib.Core.List.{List, [], ◌∷◌, map, flat_map}
use Rattle.lists.specs.Numbers.{pick, upfrom, look}
use Rattle.model.specs.Flows.{Links, Tree, sites, ends, joined, at_terminals}
use Rattle.model.specs.Trimming.{balanced}
use Rattle.theory_book.specs.Listing.{In, Ascends, Before, combos, words}

-- ---- what stands in the book, and in which order

-- an entry: the number of sites of a tree, its links, and their sizes, one for each link
pub record Entry : Type 0 where
  pub sites : ℕ
  pub links : Links
  pub sizes : List ℕ

-- links compared by their lower number, then by their higher (02: lists compared entry by entry)
abbrev pub Lower : ℕ × ℕ → ℕ × ℕ → Type 0
Lower l m = (l.0 < m.0) ⊎ ((l.0 ≡ m.0) × (l.1 < m.1))

-- a tree as the card writes it: each link as lower and higher number, links ascending
pub record Drawn (n : ℕ) (ls : Links) : Type 0 where
  pub tree : Tree ls n
  pub lower : (l : ℕ × ℕ) → In l ls → l.0 < l.1
  pub ascending : Ascends Lower ls

-- what is to stand in a book of trees of least, least + 1, .. sites (so many numbers) with sizes 0 to most
pub record Listed (least numbers most : ℕ) (e : Entry) : Type 0 where
  pub enough : least ≤ e.sites
  pub no_more : e.sites < least + numbers
  pub drawn : Drawn e.sites e.links
  pub sized : length e.sizes ≡ length e.links
  pub small : (x : ℕ) → In x e.sizes → x ≤ most

-- the card's order: by number of sites; then by the list of links; then by the list of sizes
abbrev pub Earlier : Entry → Entry → Type 0
Earlier e f =
    (e.sites < f.sites)
    ⊎ ((e.sites ≡ f.sites)
    × (Before Lower e.links f.links ⊎ ((e.links ≡ f.links) × Before ◌<◌ e.sizes f.sizes)))

-- ---- the list

-- the possible links of n sites, as lower and higher number, ascending
unfoldable pub possible : ℕ → Links
possible n = flat_map (λ a. map (λ b. (a, b)) (upfrom (suc a) (n - a))) (upfrom 1 n)

-- 1 if links join all sites of a list to site 1, 0 if not
unfoldable pub joins_all : Links → List ℕ → ℕ
joins_all ls [] = 1
joins_all ls (x ∷ xs) = joined ls 1 x * joins_all ls xs

-- the choices of one link less than sites that join all sites: the trees of n sites
unfoldable pub trees_of : ℕ → List Links
trees_of n = flat_map (λ ls. pick (joins_all ls (sites n)) 1 (ls ∷ []) []) (combos (possible n) (n - 1))

-- the lists of sizes 0 to most for the links of a tree of n sites
unfoldable pub size_lists : ℕ → ℕ → List (List ℕ)
size_lists most n = words (upfrom 0 (suc most)) (n - 1)

-- the part of the book for n sites
unfoldable pub part_of : ℕ → ℕ → List Entry
part_of most n = flat_map (λ ls. map (λ c. record { sites = n; links = ls; sizes = c }) (size_lists most n)) (trees_of n)

-- the book of trees of least, least + 1, .. sites (so many numbers) with sizes 0 to most
unfoldable pub book : ℕ → ℕ → ℕ → List Entry
book least numbers most = flat_map (part_of most) (upfrom least numbers)

-- the card's: trees of 2 to 5 sites, four numbers, with sizes 0 to 2
abbrev pub exercise_book : List Entry
exercise_book = book 2 4 2

-- ---- the total of an entry

-- the ends of its tree (01: end); no site is marked
abbrev pub ends_in : Entry → ℕ → ℕ
ends_in e = look (ends e.links e.sites (replicate e.sites 0))

-- its trimmed sizes (01: trimmed sizes)
abbrev pub trimmed_in : Entry → List ℕ
trimmed_in e = balanced e.links e.sites (ends_in e) e.sizes

-- its total in halves: the trimmed sizes over the ends' links, summed
unfoldable pub halves : Entry → ℕ
halves e = at_terminals e.links e.sites (ends_in e) (look (trimmed_in e))
