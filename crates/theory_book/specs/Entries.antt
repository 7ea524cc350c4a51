-- The book holds every tree that is to stand in it with every list of sizes, nothing else, each once, in the card's order; and no other list does so.
-- By the lists it is made of: what stands in each is known, and each ascends, so that they ascend together.
use Rattle.std.specs.Prelude.{◌≡◌, ◌⊎◌, List, map}
use Prim.Native.Nat.{ℕ, suc, ◌-◌, ◌<◌}
use Rattle.lists.specs.Numbers.{upfrom}
use Rattle.model.specs.Flows.{Links}
use Rattle.theory_book.specs.Listing.{Before, words}
use Rattle.theory_book.specs.Book.{Entry, Lower}

-- ---- the order of entries

-- by links, then by sizes
abbrev pub Sooner : Entry → Entry → Type 0
Sooner e f = Before Lower e.links f.links ⊎ ((e.links ≡ f.links) × Before ◌<◌ e.sizes f.sizes)

-- ---- the book

-- the entries of one tree, one for each list of sizes
abbrev pub sized_by : ℕ → ℕ → Links → List Entry
sized_by most n ls = map (λ c. record { sites = n; links = ls; sizes = c }) (words (upfrom 0 (suc most)) (n - 1))
