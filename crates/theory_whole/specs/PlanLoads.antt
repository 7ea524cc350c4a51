-- The loads of a plan in whole circuits: halved amounts, whose loads are even at every inner site, since no site passes on an odd number of the links
-- that separate two other sites.
use mathlib.Core.List.{List, [], ◌∷◌}
use Prim.Native.Nat.{◌/◌}
use Rattle.model.specs.declared.Pair.{Pair}

-- ---- amounts halved

-- a plan with every amount halved
unfoldable pub halved : List Pair → List Pair
halved [] = []
halved (e ∷ es) = record { first = e.first; second = e.second; amount = e.amount / 2 } ∷ halved es

-- ---- loads
