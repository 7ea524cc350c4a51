-- The links of a tree along an inward order: each site but the last has just one link to a later site, its parent link; the links at a site are that one and
-- the parent links of its children; and every link is the parent link of one site. By induction along the order, the first site's links split off.
use Rattle.std.specs.Prelude.{ℕ, ◌-◌, ◌≤◌}
use Rattle.std.proofs.Math.Logic.{if_pos, if_neg}
use mathlib.Core.List.{List, [], ◌∷◌}
use native.Mathlib.Omega.{arith}
use Rattle.std.proofs.Math.Decide.{ℕ_discrete}
use Rattle.lists.specs.Numbers.{count}
use Rattle.lists.specs.Sums.{same?}
use Rattle.model.specs.WholeLoads.{from}

-- what stands from v on stands in the list
pub from-count : (us : List ℕ) (v x : ℕ) → count (from us v) x ≤ count us x
unfolding from count
from-count [] v x = omega arith
from-count (u ∷ us) v x = same? u v
    (λ e. rw (if_pos (ℕ_discrete u v) e) (omega arith))
    (λ d. rw (if_neg (ℕ_discrete u v) d) (omega (arith, from-count us v x)))
