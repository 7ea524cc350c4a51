-- The choices of links that are listed are the trees as the card writes them, each in its place. By the order of the possible links.
use Rattle.std.specs.Prelude.{ℕ, ◌≤◌, ◌<◌}
use mathlib.Core.List.{[]}
use Rattle.model.specs.Flows.{Links}
use Rattle.theory_book.specs.Listing.{In}

-- ---- the order of links

-- ---- the possible links

-- ---- the tree test

-- links between lower and higher numbers up to n
abbrev pub Between : ℕ → Links → Type 0
Between n ls = (l : ℕ × ℕ) → In l ls → (1 ≤ l.0) × (l.0 < l.1) × (l.1 ≤ n)
