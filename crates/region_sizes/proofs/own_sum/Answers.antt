-- `own_sum`: the sum over the sites so far.
use Rattle.std.proofs.Common.{◌≡◌, ℕ, zero, suc, ◌+◌, ◌*◌, ◌≤◌, List, length, refl, ap, ◌∙◌, arith}
use native.Mathlib.Nat.{mul-le-mul_right}
use Rattle.lists.specs.Numbers.{is, look, sum}
use Rattle.lists.specs.Sums.{is_le}
use Rattle.model.specs.Limits.{LINKS, SIZE}
use Rattle.model.specs.Edition.{largest}
use Rattle.model.specs.Flows.{at, sum_at}
use Rattle.theory_regions.specs.Regions.{own}
use Rattle.tree.specs.Accepted.{TreeWithin}
use Rattle.tree.specs.Links.{length-links}
use Rattle.tree.specs.Offer.{links}
use Rattle.tree.specs.Places.{sum-next}
use Rattle.tree_links.specs.Chains.{sum_limit, offer_limited}
use Rattle.region_sizes.specs.Laws.{own_sum_by_sites}
use Rattle.region_sizes.proofs.own_sum.Goals as goal

-- what a site counts stays small
small : {n : ℕ} {one two sizes : List ℕ} → TreeWithin largest n one two sizes → (x v : ℕ)
    → is x 1 * sum_at (links one two) v (look sizes) ≤ LINKS * SIZE
unfolding sum_at
small {n} {one} {two} {sizes} w x v =
    let ls = links one two in
    let all = length-links one two (omega (arith, w.firsts, w.seconds)) in
    omega (
      arith,
      all,
      w.firsts,
      w.few,
      sum_limit ls v (look sizes) SIZE (length ls) (λ i h. w.limited i (omega (arith, all, w.firsts, w.capacities))),
      mul-le-mul_right (sum (length ls) (λ i. at ls v i * look sizes i)) (is_le x 1),
    )

-- and so does the sum
sums_small : (f : ℕ → ℕ) (k i : ℕ) → ((j : ℕ) → f j ≤ k) → sum i f ≤ i * k
unfolding sum
sums_small f k zero h = omega arith
sums_small f k (suc i) h = omega (arith, sums_small f k i h, h i)

-- what one more site counts
counted : (c : goal.After-own_at-total) → let t = c.args.chart.now.chains.tree in
    c.own_at-total.result ≡ is (own (look c.args.chart.now.ends) c.args.far (1 + c.loop-i.i)) 1 * sum_at (links t.one.now t.two.now) (1 + c.loop-i.i) (look c.args.sizes.now)
counted c =
    let t = c.args.chart.now.chains.tree in
    let turned : c.loop-i.i + 1 ≡ 1 + c.loop-i.i = omega arith in
    c.own_at-total.ensures
    ∙ ap (λ v. is (own (look c.args.chart.now.ends) c.args.far v) 1 * sum_at (links t.one.now t.two.now) v (look c.args.sizes.now)) turned

pub own_at-total-requires : goal.own_at-total-requires
own_at-total-requires c = (omega (arith, c.requires.few), offer_limited c.requires)

pub loop-i-init : goal.loop-i-init
unfolding sum
loop-i-init c = refl

pub overflow_add-total : goal.overflow_add-total
overflow_add-total c =
    let t = c.args.chart.now.chains.tree in
    let w = c.requires in
    let far = own (look c.args.chart.now.ends) c.args.far in
    let i = c.loop-i.i in
    omega (
      arith,
      w.few,
      c.loop-i.invariant,
      counted c,
      small w (far (1 + i)) (1 + i),
      sums_small (λ k. is (far (1 + k)) 1 * sum_at (links t.one.now t.two.now) (1 + k) (look c.args.sizes.now)) (LINKS * SIZE) i (λ k. small w (far (1 + k)) (1 + k)),
    )

pub loop-i-preserved : goal.loop-i-preserved
loop-i-preserved c = sum-next _ c.loop-i.i c.loop-i.invariant (counted c)

pub returns : goal.returns
returns c =
    let t = c.args.chart.now.chains.tree in
    let far = own (look c.args.chart.now.ends) c.args.far in
    let all : c.loop-i.i ≡ t.sites = omega arith in
    c.loop-i.invariant
    ∙ ap (λ i. sum i (λ k. is (far (1 + k)) 1 * sum_at (links t.one.now t.two.now) (1 + k) (look c.args.sizes.now))) all
    ∙ own_sum_by_sites t.sites (links t.one.now t.two.now) (look c.args.chart.now.ends) c.args.far c.args.sizes.now
