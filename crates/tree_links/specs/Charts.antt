-- What a chart of a tree of n sites keeps beside its chains.
use Rattle.std.specs.Prelude.{◌≡◌, List, ℕ, take}
use Rattle.lists.specs.Numbers.{look}
use Rattle.model.specs.Flows.{ends}
use Rattle.model.specs.Trimming.{elimination}
use Rattle.tree.specs.Offer.{links}

-- its first n places are the elimination order of the sites
abbrev pub IsOrder : ℕ → List ℕ → List ℕ → List ℕ → Type 0
IsOrder n one two order = take n order ≡ elimination (links one two) n

-- place v holds 1 where site v is an end, 0 elsewhere
abbrev pub AreEnds : ℕ → List ℕ → List ℕ → List ℕ → List ℕ → Type 0
AreEnds n one two marks list = look list ≡ look (ends (links one two) n marks)
