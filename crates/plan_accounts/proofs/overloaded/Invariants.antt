-- `overloaded`: no link below j has a load above twice its capacity.
use Rattle.std.proofs.Common.{ℕ, ◌*◌, ◌<◌}
use Rattle.lists.specs.Numbers.{look}
use Rattle.plan_accounts.proofs.overloaded.Given as goal

abbrev pub invariant-loop-j : goal.invariant-loop-j
invariant-loop-j l = (i : ℕ) → i < l.j → 2 * look l.capacity i < look l.load i → ⊥
