-- `heavy`: no site before v has a heavy link.
use Rattle.std.proofs.Common.{◌≡◌, ℕ, ◌≤◌, ◌<◌, false}
use Rattle.lists.specs.Numbers.{look}
use Rattle.tree.specs.Offer.{links}
use Rattle.pairing.specs.Weighing.Heavy.{heavy_at}
use Rattle.pairing.proofs.weighing.heavy.Given as goal

abbrev pub invariant-loop-v : goal.invariant-loop-v
invariant-loop-v l = (x : ℕ) → 1 ≤ x → x < l.v
    → heavy_at (links l.chains.tree.one.now l.chains.tree.two.now) (look l.ends) (look l.chains.tree.capacity.now) x ≡ false
