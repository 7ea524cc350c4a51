-- The invariant: after i sites the terminals among them have claimed their places and are counted.
use Rattle.std.proofs.Common.{◌≡◌, ◌≤◌, length}
use Rattle.model.specs.Limits.{SITES}
use Rattle.lists.specs.Numbers.{look}
use Rattle.cuts_groups.specs.Groups.{in_words}
use Rattle.cuts_groups.specs.Places.{places, of_terminal}
use Rattle.cuts_groups.specs.Steps.{members, owners_to}
use Rattle.cuts_groups.proofs.put_owners.Given as goal

abbrev pub invariant-loop-i : goal.invariant-loop-i
invariant-loop-i l =
    (l.i ≤ l.n) × (length l.owner ≡ SITES) × (l.owner ≡ owners_to (in_words l.words) l.labels l.initial.owner l.ends l.i)
    × (l.count ≡ places l.i (of_terminal (look l.ends) (members (in_words l.words) l.labels)))
