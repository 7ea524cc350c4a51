-- `at_ends`: one site more, and the sum stays small.
use Rattle.std.proofs.Common.{◌≡◌, ℕ, zero, suc, ◌+◌, ◌*◌, ◌≤◌, List, length, refl, ap, ◌∙◌, arith}
use native.Mathlib.Nat.{mul-le-mul_right}
use Rattle.lists.specs.Numbers.{is, look, sum}
use Rattle.lists.specs.Sums.{is_le}
use Rattle.model.specs.Limits.{LINKS, SIZE}
use Rattle.model.specs.Edition.{largest}
use Rattle.model.specs.Flows.{at, sum_at}
use Rattle.tree.specs.Accepted.{TreeWithin}
use Rattle.tree.specs.Links.{length-links}
use Rattle.tree.specs.Offer.{links}
use Rattle.tree.specs.Places.{sum-next}
use Rattle.tree_links.specs.Chains.{sum_limit, offer_limited}
use Rattle.book_totals.specs.Laws.{at_ends_by_sites}
use Rattle.book_totals.proofs.at_ends.Goals as goal

-- what a site counts stays small
small : {n : ℕ} {one two sizes : List ℕ} → TreeWithin largest n one two sizes → (x v : ℕ)
    → is x 1 * sum_at (links one two) v (look sizes) ≤ LINKS * SIZE
unfolding sum_at
small {n} {one} {two} {sizes} w x v =
    let ls = links one two in
    let all = length-links one two (omega (arith, w.firsts, w.seconds)) in
    omega (
      arith,
      all,
      w.firsts,
      w.few,
      sum_limit ls v (look sizes) SIZE (length ls) (λ i h. w.limited i (omega (arith, all, w.firsts, w.capacities))),
      mul-le-mul_right (sum (length ls) (λ i. at ls v i * look sizes i)) (is_le x 1),
    )

-- and so does the sum
sums_small : (f : ℕ → ℕ) (k i : ℕ) → ((j : ℕ) → f j ≤ k) → sum i f ≤ i * k
unfolding sum
sums_small f k zero h = omega arith
sums_small f k (suc i) h = omega (arith, sums_small f k i h, h i)

-- what one more site counts, by the chains of the tree
counted : (one two sizes ends : List ℕ) (i r : ℕ) → r ≡ is (look ends (i + 1)) 1 * sum_at (links one two) (i + 1) (look sizes)
    → r ≡ is (look ends (1 + i)) 1 * sum_at (links one two) (1 + i) (look sizes)
counted one two sizes ends i r e =
    let turned : i + 1 ≡ 1 + i = omega arith in
    e ∙ ap (λ v. is (look ends v) 1 * sum_at (links one two) v (look sizes)) turned

pub at_end-total-requires : goal.at_end-total-requires
at_end-total-requires c = (omega (arith, c.requires.few), offer_limited c.requires)

pub loop-i-init : goal.loop-i-init
unfolding sum
loop-i-init c = refl

pub overflow_add-total : goal.overflow_add-total
overflow_add-total c =
    let t = c.args.chains.now.tree in
    let sizes = c.args.sizes.now in
    let w = c.requires in
    let ends = c.args.ends.now in
    let i = c.loop-i.i in
    omega (
      arith,
      w.few,
      c.loop-i.invariant,
      counted t.one.now t.two.now sizes ends i _ c.at_end-total.ensures,
      small w (look ends (1 + i)) (1 + i),
      sums_small (λ k. is (look ends (1 + k)) 1 * sum_at (links t.one.now t.two.now) (1 + k) (look sizes)) (LINKS * SIZE) i (λ k. small w (look ends (1 + k)) (1 + k)),
    )

pub loop-i-preserved : goal.loop-i-preserved
loop-i-preserved c =
    let t = c.args.chains.now.tree in
    sum-next _ c.loop-i.i c.loop-i.invariant (counted t.one.now t.two.now c.args.sizes.now c.args.ends.now c.loop-i.i _ c.at_end-total.ensures)

pub returns : goal.returns
returns c =
    let t = c.args.chains.now.tree in
    let ends = c.args.ends.now in
    let sizes = c.args.sizes.now in
    let all : c.loop-i.i ≡ t.sites = omega arith in
    c.loop-i.invariant
    ∙ ap (λ i. sum i (λ k. is (look ends (1 + k)) 1 * sum_at (links t.one.now t.two.now) (1 + k) (look sizes))) all
    ∙ at_ends_by_sites (links t.one.now t.two.now) t.sites (look ends) _ (look sizes) refl
