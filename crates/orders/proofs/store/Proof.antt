-- `store` meets its contract: a list with a place for each site is filled from the front.
use mathlib.Core.Path.{◌≡◌, refl, sym, ap, ◌∙◌}
use Prim.Native.Nat.{◌≤◌, ◌-◌}
use native.Mathlib.Omega.{arith}
use borrow.Author.Rules.{rules}
use lib.ListN.{length, length-set}
use Rattle.lists.specs.Numbers.{look}
use Rattle.tree.specs.Places.{filled, filled_none, filled_next}
use Rattle.orders.specs.Stored.{list_too_short, list_long_enough}
use Rattle.orders.proofs.store.Statement.{statement}
use Rattle.orders.proofs.store.Tie as tie

abbrev invariant-loop : tie.invariant-loop-i
invariant-loop order list₀ i₀ i-end list i = (i ≤ length order) × (length list ≡ length list₀) × (list ≡ filled (look order) i list₀)

abbrev decreases-loop : tie.decreases-loop-i
decreases-loop order list₀ i₀ i-end list i = length order - i

returns : tie.Need-returns-then-list-order invariant-loop decreases-loop
returns c =
    let a = c.before.args in
    let e = list_too_short a.order.now a.list.now c.if-list-order.true in
    (sym (ap (λ o. o.outcome) e), sym (ap (λ o. o.list) e))

loop-again : tie.Need-loop-i-preserved invariant-loop decreases-loop
loop-again c =
    let top = c.before.before in
    let a = top.before.before.args in (
      omega arith,
      simp length-set top.loop-i.invariant.1,
      filled_next (look a.order.now) top.loop-i.i a.list.now (omega arith) top.loop-i.invariant.2 refl,
    )

returns-2 : tie.Need-returns invariant-loop decreases-loop
returns-2 c =
    let a = c.before.before.before.args in
    let all : c.before.loop-i.i ≡ length a.order.now = omega arith in
    let e = list_long_enough a.order.now a.list.now (omega arith) in
    (sym (ap (λ o. o.outcome) e), c.before.loop-i.invariant.2 ∙ ap (λ i. filled (look a.order.now) i a.list.now) all ∙ sym (ap (λ o. o.list) e))

pub store_spec : {M : Type 1} → statement M
store_spec =
    tie.close
    (tie.spec
    invariant-loop
    decreases-loop
    returns
    (λ c. (omega arith, refl, filled_none _ _))
    (λ c. omega arith)
    (λ c. omega arith)
    (λ c. omega arith)
    (λ c. omega arith)
    (λ c. omega arith)
    (λ c. omega arith)
    loop-again
    (λ c. search rules)
    returns-2)
