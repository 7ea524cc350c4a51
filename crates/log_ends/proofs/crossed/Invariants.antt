-- `crossed`: no link of the path before those that are still to come has another end at one of its sites, and the next link lies between two sites that have places.
use Rattle.std.proofs.Common.{◌≡◌, ◌≢◌, List, ◌∷◌, ℕ}
use Rattle.tree_sets.specs.declared.Set.{Set}
use Rattle.log_paths.specs.Tables.{PathBy}
use Rattle.log_paths.specs.Search.{Clear}
use Rattle.log_ends.proofs.Crossings.{others, Placed}
use Rattle.log_ends.proofs.crossed.Given as goal

abbrev pub invariant-loop-link : goal.invariant-loop-link
invariant-loop-link l =
    (path : Set) × PathBy l.rows l.a l.b path × Clear path (λ j. others l.one l.two l.ends l.a l.b j ≢ 0) l.link-iterator
    × ((j : ℕ) (more : List ℕ) → l.link-iterator ≡ j ∷ more → Placed l.one l.two j)
