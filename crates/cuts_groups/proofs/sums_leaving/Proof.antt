-- `sums_leaving` meets its contract: after j links the sums are those of the first j, at most SIZE for each.
use mathlib.Core.Path.{◌≡◌, refl, ◌∙◌}
use Prim.Native.Nat.{ℕ, ◌-◌, ◌*◌, ◌≤◌}
use native.Mathlib.Omega.{arith}
use lib.ListN.{length}
use Rattle.model.specs.Limits.{PLACES, SIZE}
use Rattle.lists.specs.Numbers.{sum, look}
use Rattle.tree.specs.Places.{sum-next}
use Rattle.cuts_groups.specs.Groups.{leaves, leaving}
use Rattle.lists.specs.Places.{look-zeros}
use Rattle.cuts_groups.proofs.Sums.{leaves-le}
use Rattle.cuts_groups.proofs.sums_leaving.Statement.{statement}
use Rattle.cuts_groups.proofs.sums_leaving.Tie as tie

abbrev invariant-loop : tie.invariant-loop-j
invariant-loop one two capacity labels sums₀ j₀ j-end sums j =
    (j ≤ length one) × (length sums ≡ PLACES)
    × ((l : ℕ) → (look sums l ≤ j * SIZE) × (look sums l ≡ sum j (λ i. leaves labels (look one i) (look two i) l * look capacity i)))

abbrev decreases-loop : tie.decreases-loop-j
decreases-loop one two capacity labels sums₀ j₀ j-end sums j = length one - j

loop-holds : tie.Need-loop-j-init invariant-loop decreases-loop
unfolding sum
loop-holds c = rw c.before.before.before.requires.3 (omega arith, refl, λ l. (omega (arith, look-zeros PLACES l), look-zeros PLACES l))

addable : tie.Need-add_at_labels-requires invariant-loop decreases-loop
addable c κs =
    let top = c.before.before.before.before.before in
    let p = top.before.before.before.before.requires in
    let j = top.loop-j.j in
    let e = p.0.sites j (omega arith) in
    record {
      places = top.loop-j.invariant.1;
      ends = e;
      labelled = p.2;
      small = p.1.small j (omega arith);
      room = λ l. omega (arith, (top.loop-j.invariant.2 l).0, p.0.few);
    }

loop-again : tie.Need-loop-j-preserved invariant-loop decreases-loop
loop-again c =
    let top = c.before.before.before.before.before.before in
    let s = top.before.before.before.before in
    let a = s.args in
    let j = top.loop-j.j in
    let added = c.add_at_labels.ensures in
    let d = look a.capacity.now j in (
      omega arith,
      added.0,
      λ l. (
        omega (
          arith,
          added.1 l,
          (top.loop-j.invariant.2 l).0,
          leaves-le a.labels.now (look a.one.now j) (look a.two.now j) d l,
          s.requires.1.small j (omega arith),
        ),
        added.1 l ∙ sum-next (λ i. leaves a.labels.now (look a.one.now i) (look a.two.now i) l * look a.capacity.now i) j
            (top.loop-j.invariant.2 l).1 refl,
      ),
    )

returns : tie.Need-returns invariant-loop decreases-loop
unfolding leaving
returns c =
    let all : c.before.loop-j.j ≡ length c.before.before.before.before.before.args.one.now = omega arith in
    λ l. rw all at (c.before.loop-j.invariant.2 l).1

pub sums_leaving_spec : {M : Type 1} → statement M
sums_leaving_spec =
    tie.close
    (tie.spec
    invariant-loop
    decreases-loop
    loop-holds
    (λ c. omega arith)
    (λ c. omega arith)
    (λ c. omega arith)
    (λ c. omega arith)
    (λ c. omega arith)
    (λ c. omega arith)
    addable
    (λ c. omega arith)
    (λ c. omega arith)
    loop-again
    returns)
