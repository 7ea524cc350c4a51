-- The lists of the book by number: the list of sizes and the choice of links that come at a place of their lists, and the book in pages, a tree each.
-- By these numbers the book is written; that all pages together are the book of Card 13 (02) is in `Pages`.
use mathlib.Core.List.{List, [], ◌∷◌, map, flat_map}
use Rattle.std.specs.Prelude.{ℕ, zero, suc, ◌-◌, ◌/◌, ◌%◌, ◌^◌, length}
use Rattle.lists.specs.Numbers.{pick}
use Rattle.model.specs.Flows.{Links, sites}
use Rattle.theory_book.specs.Book.{Entry, possible, joins_all, size_lists}

-- the k digits of s in base b, the highest first: the list of k sizes below b at place s
unfoldable pub word : ℕ → ℕ → ℕ → List ℕ
word b zero s = []
word b (suc k) s = (s / b ^ k % b) ∷ word b k s

-- the elements of a list whose digit of m in base 2 is 0, the highest digit for the first element: the choice of links at place m
unfoldable pub chosen : {A : Type 0} → List A → ℕ → List A
chosen [] m = []
chosen (a ∷ l) m = pick (m / 2 ^ length l % 2) 0 (a ∷ chosen l m) (chosen l m)

-- the number of choices of links between n sites
unfoldable pub choices_of : ℕ → ℕ
choices_of n = 2 ^ length (possible n)

-- a choice of links, if it is a tree of n sites
unfoldable pub if_tree : ℕ → Links → List Links
if_tree n ls = pick (length ls) (n - 1) (pick (joins_all ls (sites n)) 1 (ls ∷ []) []) []

-- the page of choice m of the links between n sites: the entries of that tree, none where the choice is no tree
unfoldable pub page_of : ℕ → ℕ → ℕ → List Entry
page_of most n m = flat_map (λ ls. map (λ c. record { sites = n; links = ls; sizes = c }) (size_lists most n)) (if_tree n (chosen (possible n) m))
