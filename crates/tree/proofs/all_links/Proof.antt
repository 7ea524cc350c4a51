-- `tree::all_links` meets its contract: the links passed are between different sites, so the first that is not decides.
use Prim.Native.Nat.{ℕ, ◌≤◌, ◌<◌, ◌-◌}
use native.Mathlib.Omega.{arith}
use borrow.Author.Count.{below_none, below_more}
use lib.ListN.{length}
use Rattle.lists.specs.Numbers.{look}
use Rattle.tree_order.specs.Steps.{Link}
use Rattle.tree.specs.Steps.{told, denied}
use Rattle.tree.proofs.all_links.Statement.{statement}
use Rattle.tree.proofs.all_links.Tie as tie

abbrev invariant-loop : tie.invariant-loop-j
invariant-loop n one two j₀ j-end j = (j ≤ length one) × ((i : ℕ) → i < j → Link n (look one i) (look two i))

abbrev decreases-loop : tie.decreases-loop-j
decreases-loop n one two j₀ j-end j = length one - j

fault : tie.Need-returns-then-not-is_link invariant-loop decreases-loop
fault c all = denied c.before.is_link.result c.before.is_link.ensures (c.if-not-is_link.true)
    (all c.before.before.before.before.before.loop-j.j (omega arith))

next : tie.Need-loop-j-preserved invariant-loop decreases-loop
next c =
    let top = c.before.before.before.before.before in
    let a = top.before.before.before.args in (
      omega arith,
      below_more (λ i. Link a.n (look a.one.now i) (look a.two.now i)) top.loop-j.j top.loop-j.invariant.1
          (told c.before.is_link.result c.before.is_link.ensures (c.if-not-is_link.false)),
    )

at-end : tie.Need-returns invariant-loop decreases-loop
at-end c j h = c.before.loop-j.invariant.1 j (omega arith)

pub all_links_spec : {M : Type 1} → statement M
all_links_spec =
    tie.close
    (tie.spec
    invariant-loop
    decreases-loop
    (λ c. (omega arith, below_none _))
    (λ c. omega arith)
    (λ c. omega arith)
    (λ c. omega arith)
    (λ c. omega arith)
    (λ c κs. tt)
    fault
    (λ c. omega arith)
    (λ c. omega arith)
    next
    at-end)
