-- `is_leaf` meets its contract: the links at the site so far are counted.
use mathlib.Core.Path.{◌≡◌, refl, sym, ap, ◌∙◌}
use Prim.Native.Nat.{◌-◌, ◌≤◌}
use native.Mathlib.Omega.{arith}
use borrow.Author.Rules.{rules}
use lib.ListN.{length}
use Rattle.lists.specs.Numbers.{sum}
use Rattle.model.specs.Flows.{at}
use Rattle.theory_trees.specs.Trees.{at-le}
use Rattle.tree.specs.Links.{length-links}
use Rattle.tree.specs.Offer.{links}
use Rattle.tree.specs.Places.{sum-next}
use Rattle.region_sizes.specs.Laws.{a-link-at-a-site, a_leaf_is_counted}
use Rattle.region_sizes.proofs.is_leaf.Statement.{statement}
use Rattle.region_sizes.proofs.is_leaf.Tie as tie

abbrev invariant-loop : tie.invariant-loop-j
invariant-loop one two v count₀ j₀ j-end count j = (j ≤ length one) × (count ≤ j) × (count ≡ sum j (λ i. at (links one two) v i))

abbrev decreases-loop : tie.decreases-loop-j
decreases-loop one two v count₀ j₀ j-end count j = length one - j

loop-holds : tie.Need-loop-j-init invariant-loop decreases-loop
unfolding sum
loop-holds c = (omega arith, omega arith, refl)

-- whether one more link is at the site
counted : (c : tie.After-at-count invariant-loop decreases-loop) → let a = c.before.before.before.before.before.before.before.args in c.at-count.result ≡ at (links a.one.now a.two.now) a.v c.before.before.before.before.loop-j.j
counted c =
    let s = c.before.before.before.before.before.before.before in
    c.at-count.ensures ∙ a-link-at-a-site s.args.one.now s.args.two.now s.args.v c.before.before.before.before.loop-j.j (omega arith) (omega (arith, s.requires.seconds))

at_most_one : (c : tie.After-at-count invariant-loop decreases-loop) → c.at-count.result ≤ 1
at_most_one c = let a = c.before.before.before.before.before.before.before.args in omega (arith, counted c, at-le (links a.one.now a.two.now) a.v c.before.before.before.before.loop-j.j)

loop-again : tie.Need-loop-j-preserved invariant-loop decreases-loop
loop-again c =
    let t = c.before.before.before.before in
    (omega arith, omega (arith, at_most_one c, t.loop-j.invariant.1), sum-next _ t.loop-j.j t.loop-j.invariant.2 (counted c))

returns : tie.Need-returns invariant-loop decreases-loop
returns c =
    let t = c.before in
    let s = c.before.before.before.before in
    let a = s.args in
    let all : t.loop-j.j ≡ length a.one.now = omega (arith, t.loop-j.invariant.0) in
    a_leaf_is_counted a.one.now a.two.now a.v t.loop-j.count (length-links a.one.now a.two.now (sym s.requires.seconds))
    (t.loop-j.invariant.2 ∙ ap (λ k. sum k (λ i. at (links a.one.now a.two.now) a.v i)) all)

pub is_leaf_spec : {M : Type 1} → statement M
is_leaf_spec =
    tie.close
    (tie.spec
    invariant-loop
    decreases-loop
    loop-holds
    (λ c. omega arith)
    (λ c. omega arith)
    (λ c. omega (arith, c.before.before.before.before.before.requires.seconds))
    (λ c. omega (arith, c.before.before.before.before.before.before.requires.seconds))
    (λ c κs. search rules)
    (λ c. omega (arith, at_most_one c, c.before.before.before.before.loop-j.invariant.1, c.before.before.before.before.before.before.before.requires.few))
    (λ c. omega arith)
    (λ c. omega arith)
    loop-again
    returns)
