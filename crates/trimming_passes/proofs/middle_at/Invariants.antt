-- The invariant: what is passed and what is ahead in the chain is the sum, and a link behind has at most half of it.
use Rattle.std.proofs.Common.{◌≡◌, ℕ, ◌+◌, ◌*◌, ◌<◌, ◌≤◌, length}
use Rattle.lists.specs.Numbers.{look, sum}
use Rattle.model.specs.Flows.{at}
use Rattle.tree.specs.Offer.{links}
use Rattle.tree_links.specs.Chains.{On}
use Rattle.trimming_passes.proofs.middle_at.Given as goal

abbrev pub invariant-loop-p : goal.invariant-loop-p
invariant-loop-p l =
    On (links l.chains.tree.one.now l.chains.tree.two.now) l.v (length l.chains.tree.one.now) l.p
    × (l.passed + sum l.p (λ i. at (links l.chains.tree.one.now l.chains.tree.two.now) l.v i * look l.capacity i) ≡ l.sum)
    × ((i : ℕ) → l.p ≤ i → i < length l.chains.tree.one.now → at (links l.chains.tree.one.now l.chains.tree.two.now) l.v i ≡ 1 → look l.capacity i + look l.capacity i ≤ l.sum)

abbrev pub decreases-loop-p : goal.decreases-loop-p
decreases-loop-p l = l.p
