-- `cuts_by_ends`: the cuts of the terminals that the list of the ends tells.
use Rattle.std.proofs.Common.{refl, ap, ◌∙◌, ℕ}
use Rattle.lists.specs.Numbers.{look}
use Rattle.tree.specs.Offer.{links}
use Rattle.tree_links.specs.Chains.{offer-placed, offer_limited}
use Rattle.cuts_groups.specs.Steps.{Owned, owned}
use Rattle.cuts.specs.Outcome.{cuts}
use Rattle.cuts.proofs.cuts_by_ends.Goals as goal

pub cuts_of-requires : goal.cuts_of-requires
cuts_of-requires c =
    let w = c.args.tree.within.within in
    (w.few, offer-placed w, offer_limited w, c.requires, record { owners = refl; sizes = refl; counts = refl })

pub returns : goal.returns
unfolding cuts
returns c =
    let t = c.args.tree in
    let ls = links t.one.now t.two.now in
    let ended = rw c.of.ensures at c.ends-ends.ensures in
    ap (λ (r : Owned). record { owner = r.owner; size = r.size; count = r.count })
    (c.cuts_of.ensures ∙ ap (λ (terminal : ℕ → ℕ). owned ls t.sites terminal (look t.capacity.now) (look c.args.balanced.now)) ended)
