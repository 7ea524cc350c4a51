-- `heavy_at`: the walk is on the chain of the site, and no link from p on is heavy there.
use Rattle.std.proofs.Common.{◌≡◌, ℕ, ◌≤◌, ◌<◌, length, false}
use Rattle.lists.specs.Numbers.{look}
use Rattle.tree.specs.Offer.{links}
use Rattle.tree_links.specs.Chains.{On}
use Rattle.pairing.specs.Weighing.Heavy.{is_heavy}
use Rattle.pairing.proofs.weighing.heavy_at.Given as goal

abbrev pub invariant-loop-p : goal.invariant-loop-p
invariant-loop-p l = record {
  on : On (links l.chains.tree.one.now l.chains.tree.two.now) l.v (length l.chains.tree.one.now) l.p;
  light : (j : ℕ) → l.p ≤ j → j < length l.chains.tree.one.now
      → is_heavy (links l.chains.tree.one.now l.chains.tree.two.now) (look l.chains.tree.capacity.now) l.v j ≡ false;
}

abbrev pub decreases-loop-p : goal.decreases-loop-p
decreases-loop-p l = l.p
