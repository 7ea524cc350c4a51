-- `heavy_at`: no link of the chain that is behind is heavy, and none that is not in the chain.
use Rattle.std.proofs.Common.{◌≡◌, ℕ, ◌-◌, ◌<◌, length, sym, ap, ◌∙◌, arith, ltb, Bool}
use Rattle.std.proofs.Math.Decide.{dec_lt}
use Rattle.lists.specs.Numbers.{look}
use Rattle.lists.specs.Sums.{cases, same?}
use Rattle.model.specs.Flows.{Links, sum_at}
use Rattle.theory_trees.specs.Trees.{others-add}
use Rattle.tree.specs.Offer.{links}
use Rattle.tree.specs.Links.{length-links}
use Rattle.tree_links.specs.Chains.{last_at, On, on_last, last_le, last_none, walk_goes_on}
use Rattle.tree_links.specs.declared.Chains.{Chains}
use Rattle.pairing.specs.Weighing.Heavy.{is_heavy, away_is_not_heavy, heavy_by_sum, terminal_has_no_heavy_link, one-is-heavy, none-is-heavy}
use Rattle.pairing.proofs.weighing.heavy_at.Goals as goal
use Rattle.pairing.proofs.weighing.heavy_at.Goals.{After-link_before-p}

-- the tree's links
abbrev of : Chains → Links
of chains = links chains.tree.one.now chains.tree.two.now

number : (chains : Chains) → length (of chains) ≡ length chains.tree.one.now
number chains = length-links chains.tree.one.now chains.tree.two.now (sym chains.chained.placed.seconds)

-- the test of the link at hand
tested : (s : Chains) (v p : ℕ) → 0 < p → On (of s) v (length s.tree.one.now) p → {sum : ℕ} → sum ≡ sum_at (of s) v (look s.tree.capacity.now)
    → {r : Bool} → r ≡ ltb (sum - look s.tree.capacity.now (p - 1)) (look s.tree.capacity.now (p - 1))
    → r ≡ is_heavy (of s) (look s.tree.capacity.now) v (p - 1)
tested s v p some on e h =
    let size = look s.tree.capacity.now (p - 1) in
    h
    ∙ ap (λ sum. ltb (sum - size) size) e
    ∙ sym (heavy_by_sum (of s) (look s.tree.capacity.now) v (p - 1) (omega (arith, number s, on.0)) (on.1 some))

-- the link before
back : (c : After-link_before-p) → c.link_before-p.result ≡ last_at (of c.args.chains.now) (c.loop-p.p - 1) c.args.v
back c =
    walk_goes_on c.args.chains.now.chained c.args.v (c.loop-p.p - 1) c.link_before-p.result (omega arith) (c.loop-p.invariant.on.1 (omega arith))
    c.link_before-p.ensures

pub returns-then-ends-v-eq1 : goal.returns-then-ends-v-eq1
returns-then-ends-v-eq1 c =
    let s = c.args.chains.now in
    sym (terminal_has_no_heavy_link (of s) (look c.args.ends.now) (look s.tree.capacity.now) c.args.v (omega arith))

pub loop-p-init : goal.loop-p-init
loop-p-init c =
    let s = c.args.chains.now in
    let v = c.args.v in
    let m = length s.tree.one.now in
    rw (s.chained.lasts v c.requires) (record {
      on = on_last (of s) v m m (omega arith);
      light = λ j h l. away_is_not_heavy (of s) (look s.tree.capacity.now) v j (last_none (of s) v m j h l);
    })

pub is_heavy-requires : goal.is_heavy-requires
is_heavy-requires c =
    let s = c.args.chains.now in
    let k = c.loop-p.p - 1 in
    omega (
      arith,
      c.sum_at-sum.ensures,
      others-add (of s) c.args.v k (look s.tree.capacity.now) (omega (arith, number s)) (c.loop-p.invariant.on.1 (omega arith)),
    )

pub returns-then-is_heavy : goal.returns-then-is_heavy
returns-then-is_heavy c =
    let s = c.args.chains.now in
    let there = sym (tested s c.args.v c.loop-p.p c.loop-p-test.true c.loop-p.invariant.on c.sum_at-sum.ensures c.is_heavy.ensures) ∙ c.if-is_heavy.true in
    sym (one-is-heavy (of s) (look c.args.ends.now) (look s.tree.capacity.now) c.args.v (c.loop-p.p - 1) (omega arith)
    (omega (arith, number s)) there)

pub loop-p-smaller : goal.loop-p-smaller
loop-p-smaller c = omega (arith, back c, last_le (of c.args.chains.now) c.args.v (c.loop-p.p - 1))

pub loop-p-preserved : goal.loop-p-preserved
loop-p-preserved c =
    let s = c.args.chains.now in
    let v = c.args.v in
    let k = c.loop-p.p - 1 in
    rw (back c) (record {
      on = on_last (of s) v (length s.tree.one.now) k (omega arith);
      light = λ j h l. same? j k
          (λ e. rw e (sym (tested s c.args.v c.loop-p.p c.loop-p-test.true c.loop-p.invariant.on c.sum_at-sum.ensures c.is_heavy.ensures) ∙ c.if-is_heavy.false))
          (λ d. cases (dec_lt j k)
          (λ i. away_is_not_heavy (of s) (look s.tree.capacity.now) v j (last_none (of s) v k j h i))
          (λ i. c.loop-p.invariant.light j (omega arith) l));
    })

pub returns : goal.returns
returns c =
    let s = c.args.chains.now in
    sym (none-is-heavy (of s) (look c.args.ends.now) (look s.tree.capacity.now) c.args.v (omega arith)
    (λ j l. c.loop-p.invariant.light j (omega arith) (omega (arith, number s))))
