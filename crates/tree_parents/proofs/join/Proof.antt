-- `join` meets its contract: the roots of the two sites stay roots, and the lower one becomes the parent of the higher one.
use mathlib.Core.Path.{◌≡◌}
use Prim.Native.Nat.{◌<◌}
use native.Mathlib.Omega.{arith}
use borrow.Author.Rules.{rules}
use lib.ListN.{length, length-set}
use Rattle.tree_parents.specs.Roots.{roots_placed, joined-first, joined-second}
use Rattle.tree_parents.proofs.join.Statement.{statement}
use Rattle.tree_parents.proofs.join.Tie as tie

-- both roots have places
placed : (c : tie.After-root_by_halves-b) → let first = c.before.before.before.before in let now = c.root_by_halves-b.new.parents in
    (first.root_by_halves-a.result < length now) × (c.root_by_halves-b.result < length now)
    × (length now ≡ length first.before.before.before.args.parents.now)
placed c =
    let first = c.before.before.before.before in
    let f = first.root_by_halves-a.ensures in
    let g = c.root_by_halves-b.ensures in
    let pre = first.before.before.before.requires in
    roots_placed f.0 f.1 g.0 g.1 pre.1 pre.2

root-by-halves-requires-2 : tie.Need-root_by_halves-b-requires
root-by-halves-requires-2 c κs =
    let first = c.before.before.before in
    let s = first.root_by_halves-a.ensures.1 in
    (s.lower, omega (arith, s.long, first.before.before.before.requires.2))

-- Which root is the lower one is left to `omega`, which finds the test among the facts.
pub join_spec : {M : Type 1} → statement M
join_spec =
    tie.close
    (tie.spec
    (λ c κs. search rules)
    root-by-halves-requires-2
    (λ c. search rules)
    (λ c. omega (arith, placed c.before.before.before.before))
    (λ c. search rules)
    (λ c. omega (arith, placed c.before.before.before.before))
    (λ c. search rules)
    (λ c. omega (arith, placed c.before.before.before.before))
    (λ c. search rules)
    (λ c. omega (arith, placed c.before.before.before.before))
    (λ c. simp length-set (placed c.before.before.before.before).2)
    (λ c.
    let second = c.before.before.before.before in
    let first = second.before.before.before.before in
    let f = first.root_by_halves-a.ensures in
    let g = second.root_by_halves-b.ensures in
    let pre = first.before.before.before.requires in
    joined-first f.0 f.1 g.0 g.1 pre.1 pre.2 (omega arith))
    (λ c. simp length-set (placed c.before.before.before.before).2)
    (λ c.
    let second = c.before.before.before.before in
    let first = second.before.before.before.before in
    let f = first.root_by_halves-a.ensures in
    let g = second.root_by_halves-b.ensures in
    let pre = first.before.before.before.requires in
    joined-second f.0 f.1 g.0 g.1 pre.1 pre.2 (omega arith)))
