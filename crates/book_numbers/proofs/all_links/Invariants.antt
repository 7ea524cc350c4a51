-- The links from the sites before a.
use Rattle.std.proofs.Common.{◌≡◌, ◌-◌, ◌*◌, ◌≤◌}
use Rattle.book_numbers.specs.Held.{held, Roomy}
use Rattle.book_numbers.specs.Laws.{first_fans}
use Rattle.book_numbers.proofs.all_links.Given as goal

abbrev pub invariant-loop-a : goal.invariant-loop-a
invariant-loop-a l = (held l.all ≡ first_fans l.n (l.a - 1)) × (l.all.count ≤ 4 * (l.a - 1)) × Roomy l.all
