-- `children` meets its contract: after j turns the children of the first j links are told.
use mathlib.Core.Path.{◌≡◌, refl, ◌∙◌}
use mathlib.Core.List.{List}
use Prim.Native.Nat.{ℕ, ◌-◌, ◌≤◌, ◌<◌}
use native.Mathlib.Omega.{arith}
use lib.Seq.{get_or-set_other}
use lib.ListN.{length, length-set, take}
use Rattle.model.specs.Limits.{SITES}
use Rattle.lists.specs.Numbers.{look}
use Rattle.lists.specs.Places.{look-zeros}
use Rattle.tree.specs.Offer.{links}
use Rattle.whole_parents.specs.Parents.{Leads, the_order_takes_no_site_twice}
use Rattle.whole_parents.proofs.Laws.{children-next, children-all, sites-within}
use Rattle.whole_parents.proofs.children.Statement.{statement}
use Rattle.whole_parents.proofs.children.Tie as tie

abbrev invariant-loop : tie.invariant-loop-j
invariant-loop n order one two place child₀ j₀ j-end child j =
    (j ≤ length one) × (length child ≡ SITES) × ((k : ℕ) → k < j → Leads (links one two) (take n order) k (look child k) × (look child k ≤ SITES))
    × ((k : ℕ) → j ≤ k → look child k ≡ 0)

abbrev decreases-loop : tie.decreases-loop-j
decreases-loop n order one two place child₀ j₀ j-end child j = length one - j

loop-holds : tie.Need-loop-j-init invariant-loop decreases-loop
loop-holds c = (omega arith, refl, (λ k h. absurd (omega arith)), λ k h. look-zeros SITES k)

-- link j, whose child is told in this turn
pub record Turn (j : ℕ) (one two : List ℕ) : Type 0 where
  pub more : j < length one
  pub few : length one < SITES
  pub seconds : length two ≡ length one
  pub sites : (look one j ≤ SITES) × (look two j ≤ SITES)

turn : (c : tie.In-loop-j invariant-loop decreases-loop) → let a = c.before.before.before.before.before.args in Turn c.before.loop-j.j a.one.now a.two.now
turn c =
    let w = c.before.before.before.before.before.requires in
    let more : c.before.loop-j.j < length c.before.before.before.before.before.args.one.now = omega arith in
    record {
      more = more;
      few = omega (arith, w.tree.firsts, w.tree.few);
      seconds = omega (arith, w.tree.firsts, w.tree.seconds);
      sites = sites-within w c.before.loop-j.j more;
    }

loop-again : tie.Need-loop-j-preserved invariant-loop decreases-loop
loop-again c =
    let t = c.before.before.before.before in
    let s = c.before.before.before.before.before.before.before.before.before in
    let top = t.before in (
      omega (arith, turn t),
      simp length-set top.loop-j.invariant.1,
      children-next s.requires top.before.places-place.result top.before.places-place.ensures top.loop-j.j (turn t).more c.earlier.ensures
          top.loop-j.child top.loop-j.invariant.1 top.loop-j.invariant.2,
      λ k h. get_or-set_other top.loop-j.child top.loop-j.j k c.earlier.result 0 (λ z. omega arith) ∙ top.loop-j.invariant.3 k (omega arith),
    )

returns : tie.Need-returns invariant-loop decreases-loop
returns c =
    let s = c.before.before.before.before.before in
    let all : c.before.loop-j.j ≡ length s.args.one.now = omega arith in
    children-all s.requires c.before.loop-j.child (rw all at c.before.loop-j.invariant.2) (λ k h. c.before.loop-j.invariant.3 k (omega arith))

pub children_spec : {M : Type 1} → statement M
children_spec =
    tie.close
    (tie.spec
    invariant-loop
    decreases-loop
    (λ c κs. the_order_takes_no_site_twice c.before.before.requires)
    loop-holds
    (λ c. omega (arith, turn c))
    (λ c. omega (arith, turn c.before))
    (λ c. omega (arith, turn c.before))
    (λ c. omega (arith, turn c.before.before))
    (λ c κs. (turn c.before.before.before).sites)
    (λ c. omega (arith, c.earlier.ensures.site))
    (λ c. omega (arith, turn c.before.before.before.before))
    (λ c. omega (arith, turn c.before.before.before.before))
    (λ c. omega (arith, turn c.before.before.before.before))
    (λ c. omega (arith, turn c.before.before.before.before))
    loop-again
    returns)
