-- `Chains::sum_at`: the sum stays small, and the way goes on to the link before.
use Rattle.std.proofs.Common.{◌≡◌, ℕ, ◌+◌, ◌*◌, ◌-◌, ◌≤◌, ◌<◌, List, length, sym, ap, ◌∙◌, arith, add_assoc}
use native.Mathlib.Nat.{zero-add, add-zero}
use Rattle.model.specs.Limits.{LINKS, SIZE}
use Rattle.lists.specs.Numbers.{look, sum, pick}
use Rattle.model.specs.Flows.{at, sum_at}
use Rattle.tree.specs.Offer.{links}
use Rattle.tree.specs.Links.{length-links}
use Rattle.tree_links.specs.Chains.{last_at, On, Limited, Chained, on_last, last_le, last_sum, sum_back, sum_limit, walk_goes_on}
use Rattle.tree_links.proofs.Chains.sum_at.Goals as goal

pub loop-p-init : goal.loop-p-init
loop-p-init c =
    let chains = c.args.self.now in
    let ls = links chains.tree.one.now chains.tree.two.now in
    let m = length chains.tree.one.now in
    rw (chains.chained.lasts c.args.v c.requires.0) (record {
      on = on_last ls c.args.v m m (omega arith);
      ahead = zero-add _ ∙ sym (last_sum ls c.args.v (look c.args.capacity.now) m);
    })

-- the sum stays small
room : {one two last before capacity : List ℕ} → Chained one two last before → Limited one capacity → (v total p : ℕ) → 0 < p → On (links one two) v (length one) p
    → total + sum p (λ i. at (links one two) v i * look capacity i) ≡ sum (length one) (λ i. at (links one two) v i * look capacity i)
    → total + look capacity (p - 1) ≤ LINKS * SIZE
room {one} {two} {last} {before} {capacity} w l v total p some on ahead =
    let ls = links one two in
    let m = length one in
    let each : ℕ → ℕ = λ i. at ls v i * look capacity i in
    let all : total + sum p each ≡ sum m each = ahead in
    let few = w.placed.few in
    omega (arith, sum_back ls v (look capacity) p (omega arith) (on.1 some), sum_limit ls v (look capacity) SIZE m l.small)

pub overflow_add-total : goal.overflow_add-total
overflow_add-total c = omega (arith, room c.args.self.now.chained c.requires.1 c.args.v c.loop-p.total c.loop-p.p (omega arith) c.loop-p.invariant.on c.loop-p.invariant.ahead)

-- the link before
back : {one two last before : List ℕ} → Chained one two last before → (v p r : ℕ) → 0 < p → On (links one two) v (length one) p
    → r ≡ pick (look one (p - 1)) v (look before (2 * (p - 1))) (pick (look two (p - 1)) v (look before (2 * (p - 1) + 1)) 0)
    → r ≡ last_at (links one two) (p - 1) v
back w v p r some on e = walk_goes_on w v (p - 1) r (omega arith) (on.1 some) e

pub loop-p-smaller : goal.loop-p-smaller
loop-p-smaller c =
    let chains = c.args.self.now in
    let before = back chains.chained c.args.v c.loop-p.p c.link_before-p.result (omega arith) c.loop-p.invariant.on c.link_before-p.ensures in
    omega (arith, before, last_le (links chains.tree.one.now chains.tree.two.now) c.args.v (c.loop-p.p - 1))

pub loop-p-preserved : goal.loop-p-preserved
loop-p-preserved c =
    let chains = c.args.self.now in
    let ls = links chains.tree.one.now chains.tree.two.now in
    let capacity = look c.args.capacity.now in
    let here = c.loop-p.invariant.on.1 (omega arith) in
    let before = back chains.chained c.args.v c.loop-p.p c.link_before-p.result (omega arith) c.loop-p.invariant.on c.link_before-p.ensures in
    rw before (record {
      on = on_last ls c.args.v (length chains.tree.one.now) (c.loop-p.p - 1) (omega arith);
      ahead = add_assoc _ _ _ ∙ ap (λ y. c.loop-p.total + y) (sym (sum_back ls c.args.v capacity c.loop-p.p (omega arith) here)) ∙ c.loop-p.invariant.ahead;
    })

pub returns : goal.returns
unfolding sum_at sum
returns c =
    let chains = c.args.self.now in
    let none : c.loop-p.p ≡ 0 = omega arith in
    let all : length (links chains.tree.one.now chains.tree.two.now) ≡ length chains.tree.one.now = length-links chains.tree.one.now chains.tree.two.now (sym chains.chained.placed.seconds) in
    rw all (sym (add-zero _) ∙ (rw none at c.loop-p.invariant.ahead))
