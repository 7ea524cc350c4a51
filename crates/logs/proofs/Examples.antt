-- Three ends on a path, the one between marked, computed (document 02, Card 7): its two neighbours may be joined with it, but not with each other.
use Rattle.std.specs.Prelude.{Some, true, [], ◌≡◌, refl}
use Rattle.std.proofs.Math.Decide.{ℕ_discrete}
use Rattle.lists.specs.Numbers.{pick, is, differ, sum}
use Rattle.model.specs.Flows.{relabel, label, without, side, separates}
use Rattle.model.specs.Parts.{another, crossed, free_pair}
use Rattle.model.specs.Booking.{pair}
use Rattle.model.specs.declared.Request.TheVariants.{Open, Fault}
use Rattle.log_requests.specs.Requests.{between}
use Rattle.logs.specs.Examples.{ends, outer, path}

neighbours_are_joined : between path ends true 4 (Some 1) (Some 2) ≡ Open (pair 1 2 4)
unfolding ℕ_discrete pick is differ sum relabel label without side separates another crossed free_pair between
neighbours_are_joined = refl

another_end_stands_between : between path ends true 4 (Some 3) (Some 1) ≡ Fault 6
unfolding ℕ_discrete pick is differ sum relabel label without side separates another crossed free_pair between
another_end_stands_between = refl

the_outer_ends_are_joined : between path outer true 4 (Some 3) (Some 1) ≡ Open (pair 3 1 4)
unfolding ℕ_discrete pick is differ sum relabel label without side separates another crossed free_pair between
the_outer_ends_are_joined = refl
