-- The list of the labels of sites, as a link more changes it, and as it tells whether all sites are joined.
-- Document 01, "The network sheet" (joined).
use Rattle.std.specs.Prelude.{Bool, true, cond, ◌&&◌, List, [], ◌∷◌, map, ℕ, eqb, leb, ltb, length}
use Rattle.lists.specs.Numbers.{look, upfrom}
use Rattle.model.specs.Flows.{relabel}

-- the labels with a link more, where each of its two sites has a place
unfoldable pub linked : List ℕ → ℕ → ℕ → List ℕ
linked labels one two = cond (ltb one (length labels) && ltb two (length labels)) (map (relabel (look labels one) (look labels two)) labels) labels

-- the sites of a list have the label of site 1
unfoldable pub alike : List ℕ → List ℕ → Bool
alike labels [] = true
alike labels (x ∷ xs) = eqb (look labels 1) (look labels x) && alike labels xs

-- there are two sites or more, each has a place, and all have the label of site 1
unfoldable pub whole : List ℕ → ℕ → Bool
whole labels sites = leb 2 sites && (ltb sites (length labels) && alike labels (upfrom 1 sites))
