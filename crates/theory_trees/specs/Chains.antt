-- Chains of links: what a path from site to site is.
-- Document 01, "The network sheet" (joined by a path of links) and "Plans, trimmed sizes, end sets" (the tree path uses a link).
use Rattle.std.specs.Prelude.{◌≡◌, ◌⊎◌, List, [], ◌∷◌, ℕ, ◌<◌, length}
use Rattle.model.specs.Flows.{Links, one, two}

-- the links at the positions js lead from a to b: the first from a to its other site, the rest on from there (01: path of links)
abbrev pub Chain : Links → ℕ → List ℕ → ℕ → Type 0
Chain ls a [] b = a ≡ b
Chain ls a (j ∷ js) b = (j < length ls) × (((one ls j ≡ a) × Chain ls (two ls j) js b) ⊎ ((two ls j ≡ a) × Chain ls (one ls j) js b))
