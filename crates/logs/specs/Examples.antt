-- Three ends on a path, the one between marked, computed (document 02, Card 7): its two neighbours may be joined with it, but not with each other.
use Rattle.std.specs.Prelude.{[], ◌∷◌, ℕ}
use Rattle.lists.specs.Numbers.{look}
use Rattle.model.specs.Flows.{Links}

abbrev pub path : Links
path = (1, 2) ∷ (2, 3) ∷ []

abbrev pub ends : ℕ → ℕ
ends = look (0 ∷ 1 ∷ 1 ∷ 1 ∷ [])

-- without the mark they may be joined
abbrev pub outer : ℕ → ℕ
outer = look (0 ∷ 1 ∷ 0 ∷ 1 ∷ [])
