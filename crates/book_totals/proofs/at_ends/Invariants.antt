-- `at_ends`: the sum over the first i sites.
use Rattle.std.proofs.Common.{◌≡◌, ◌+◌, ◌*◌}
use Rattle.lists.specs.Numbers.{is, look, sum}
use Rattle.model.specs.Flows.{sum_at}
use Rattle.tree.specs.Offer.{links}
use Rattle.book_totals.proofs.at_ends.Given as goal

abbrev pub invariant-loop-i : goal.invariant-loop-i
invariant-loop-i l = l.total ≡ sum l.i (λ k. is (look l.ends (1 + k)) 1 * sum_at (links l.chains.tree.one.now l.chains.tree.two.now) (1 + k) (look l.sizes))
