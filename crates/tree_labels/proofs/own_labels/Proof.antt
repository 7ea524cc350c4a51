-- `own_labels` meets its contract. The invariant: every place passed holds itself.
use mathlib.Core.Path.{◌≡◌, refl, ◌∙◌}
use Prim.Native.Nat.{ℕ, ◌≤◌, ◌<◌, ◌-◌}
use lib.ListN.{length, length-set}
use borrow.Author.Count.{below_none}
use Rattle.model.specs.Limits.{PLACES}
use Rattle.lists.specs.Numbers.{look}
use Rattle.tree_labels.specs.LabelPlaces.{own-place, own-places}
use native.Mathlib.Omega.{arith}
use Rattle.tree_labels.proofs.own_labels.Statement.{statement}
use Rattle.tree_labels.proofs.own_labels.Tie as tie

abbrev invariant-loop : tie.invariant-loop-x
invariant-loop labels₀ x₀ labels x = (x ≤ PLACES) × (length labels ≡ PLACES) × ((y : ℕ) → y < x → look labels y ≡ y)

abbrev decreases-loop : tie.decreases-loop-x
decreases-loop labels₀ x₀ labels x = PLACES - x

loop-holds : tie.Need-loop-x-init invariant-loop decreases-loop
loop-holds c = (omega arith, refl, below_none _)

loop-again : tie.Need-loop-x-preserved invariant-loop decreases-loop
loop-again c =
    let l = c.before.loop-x in
    (omega arith, length-set l.labels l.x l.x ∙ l.invariant.1, own-place l.labels l.x (omega arith) l.invariant.2)

returns : tie.Need-returns invariant-loop decreases-loop
returns c = let l = c.before.loop-x in own-places PLACES l.labels l.invariant.1 (λ y b. l.invariant.2 y (omega arith))

pub own_labels_spec : {M : Type 1} → statement M
own_labels_spec =
    tie.close
    (tie.spec
    invariant-loop
    decreases-loop
    loop-holds
    (λ c. omega arith)
    (λ c. omega arith)
    (λ c. omega arith)
    (λ c. omega arith)
    (λ c. omega arith)
    loop-again
    returns)
