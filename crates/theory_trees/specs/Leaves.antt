-- Leaves as terminals: no leaf stands between two others, so any two leaves make a route; and a tree of leaves alone has two sites.
-- By the lemma at a site: a leaf's one link separates it from every other site; and by counting each link at its two sites.
use Rattle.std.specs.Prelude.{◌≡◌, ℕ}
use Rattle.model.specs.Flows.{Links, Site, leaf}

-- every terminal has just one link
abbrev pub Outer : Links → ℕ → (ℕ → ℕ) → Type 0
Outer ls n terminal = (v : ℕ) → Site n v → terminal v ≡ 1 → leaf ls v ≡ 1
