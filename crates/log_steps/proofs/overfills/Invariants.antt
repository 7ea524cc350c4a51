-- `overfills`: no link of the path before those that are still to come is overfilled, and the next one is a link whose numbers are small.
use Rattle.std.proofs.Common.{◌≡◌, ◌+◌, ◌*◌, ◌<◌, List, ◌∷◌, ℕ}
use Rattle.lists.specs.Numbers.{look}
use Rattle.log_paths.specs.Search.{Clear}
use Rattle.log_steps.proofs.Walks.{Small}
use Rattle.log_steps.proofs.overfills.Given as goal

abbrev pub invariant-loop-link : goal.invariant-loop-link
invariant-loop-link l =
    Clear l.fn.path (λ j. 2 * look l.capacity j < look l.load j + l.x) l.link-iterator
    × ((j : ℕ) (more : List ℕ) → l.link-iterator ≡ j ∷ more → Small j l.x l.capacity l.load)
