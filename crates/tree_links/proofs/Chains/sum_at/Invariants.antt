-- `Chains::sum_at`: what is summed and what is still ahead in the chain is the sum over all links.
use Rattle.std.proofs.Common.{◌≡◌, ◌+◌, ◌*◌, length}
use Rattle.lists.specs.Numbers.{look, sum}
use Rattle.model.specs.Flows.{at}
use Rattle.tree.specs.Offer.{links}
use Rattle.tree_links.specs.Chains.{On}
use Rattle.tree_links.proofs.Chains.sum_at.Given as goal

abbrev pub invariant-loop-p : goal.invariant-loop-p
invariant-loop-p l = record {
  on : On (links l.self.tree.one.now l.self.tree.two.now) l.v (length l.self.tree.one.now) l.p;
  ahead : l.total + sum l.p (λ i. at (links l.self.tree.one.now l.self.tree.two.now) l.v i * look l.capacity i)
      ≡ sum (length l.self.tree.one.now) (λ i. at (links l.self.tree.one.now l.self.tree.two.now) l.v i * look l.capacity i);
}

abbrev pub decreases-loop-p : goal.decreases-loop-p
decreases-loop-p l = l.p
