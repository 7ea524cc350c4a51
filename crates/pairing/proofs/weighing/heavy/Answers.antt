-- `heavy`: a site with a heavy link, or none.
use Rattle.std.proofs.Common.{sym, ◌∙◌, arith}
use Rattle.lists.specs.Numbers.{look}
use Rattle.tree.specs.Offer.{links}
use Rattle.pairing.specs.Weighing.Heavy.{heavy-there, heavy_nowhere}
use Rattle.pairing.proofs.weighing.heavy.Goals as goal

pub returns-then-heavy_at : goal.returns-then-heavy_at
returns-then-heavy_at c =
    let t = c.args.chains.now.tree in
    sym (heavy-there (links t.one.now t.two.now) (look c.args.ends.now) (look t.capacity.now) t.sites c.loop-v.v (omega arith) (omega arith)
    (sym c.heavy_at.ensures ∙ c.if-heavy_at.true))

pub returns : goal.returns
returns c =
    let t = c.args.chains.now.tree in
    sym (heavy_nowhere (links t.one.now t.two.now) (look c.args.ends.now) (look t.capacity.now) t.sites
    (λ v l h. c.loop-v.invariant v l (omega arith)))
