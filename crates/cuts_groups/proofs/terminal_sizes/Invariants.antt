-- The invariant: after i sites the terminals among them have their sums.
use Rattle.std.proofs.Common.{◌≡◌, ◌≤◌}
use Rattle.lists.specs.Numbers.{look}
use Rattle.cuts_groups.specs.Places.{places, of_terminal}
use Rattle.cuts_groups.proofs.terminal_sizes.Given as goal

abbrev pub invariant-loop-i : goal.invariant-loop-i
invariant-loop-i l = (l.i ≤ l.n) × (l.size ≡ places l.i (of_terminal (look l.ends) (λ a. look l.leaving (look l.labels a))))
