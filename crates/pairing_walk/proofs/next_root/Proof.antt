-- `pairing_walk::next_root` meets its contract: the sites passed are covered.
use mathlib.Core.Path.{◌≡◌, refl, sym, ap, ◌∙◌}
use Prim.Native.Nat.{suc, ◌+◌, ◌-◌, ◌<◌, ◌≤◌}
use native.Mathlib.Omega.{arith}
use native.Mathlib.Numerals.{add-one}
use lib.ListN.{length, set, length-set}
use Rattle.lists.specs.Numbers.{look}
use Rattle.lists.specs.Sums.{pick_same, pick_other}
use Rattle.model.specs.Pairing.{lowest_inner}
use Rattle.pairing_walk.specs.Visits.{covered}
use Rattle.pairing_walk.proofs.Tests.{lowest-next, lowest-here, lowest-end}
use Rattle.pairing_walk.proofs.next_root.Statement.{statement}
use Rattle.pairing_walk.proofs.next_root.Tie as tie

abbrev invariant-loop : tie.invariant-loop-v
invariant-loop past n ends done₀ v₀ v-end done v =
    (past < v) × (v ≤ n + 1) × (done ≡ done₀)
    × (lowest_inner (covered (look ends) done₀) (suc past) (n - past) ≡ lowest_inner (covered (look ends) done₀) v (n + 1 - v))

abbrev decreases-loop : tie.decreases-loop-v
decreases-loop past n ends done₀ v₀ v-end done v = n + 1 - v

start : tie.Need-loop-v-init invariant-loop decreases-loop
start c =
    let a = c.before.args in
    let all : a.n - a.past ≡ a.n + 1 - suc a.past = omega arith in (
      omega arith,
      omega (arith, c.before.requires),
      refl,
      rw (add-one a.past) (ap (lowest_inner (covered (look a.ends.now) a.done.now) (suc a.past)) all),
    )

-- the site at hand has a place
inside : (c : tie.In-loop-v invariant-loop decreases-loop) → let l = c.before.loop-v in (l.v ≤ c.before.before.before.args.n) × (l.v < length l.done)
inside c =
    let l = c.before.loop-v in
    (omega (arith, c.loop-v-test.true), omega (arith, ap length l.invariant.2, c.loop-v-test.true, c.before.before.before.requires))

found : tie.Need-returns-then-covered-ne1 invariant-loop decreases-loop
found c =
    let l = c.before.before.before.loop-v in
    let a = c.before.before.before.before.before.args in (
      sym (l.invariant.3 ∙ lowest-here (covered (look a.ends.now) a.done.now) l.v (a.n + 1) (omega (arith, inside c.before.before))
          (rw (c.before.covered.ensures, l.invariant.2) at c.if-covered-ne1.true)),
      rw l.invariant.2 (sym (pick_other {u = l.v} {v = 0} (λ e. omega (arith, l.invariant.0)) a.done.now (set a.done.now l.v 1))),
    )

next : tie.Need-loop-v-preserved invariant-loop decreases-loop
next c =
    let l = c.before.before.before.loop-v in
    let a = c.before.before.before.before.before.args in (
      omega arith,
      omega (arith, inside c.before.before),
      l.invariant.2,
      l.invariant.3 ∙ lowest-next (covered (look a.ends.now) a.done.now) l.v (a.n + 1) (omega (arith, inside c.before.before))
          (rw (c.before.covered.ensures, l.invariant.2) at c.if-covered-ne1.false),
    )

none : tie.Need-returns invariant-loop decreases-loop
none c =
    let a = c.before.before.before.args in
    let l = c.before.loop-v in (
      sym (l.invariant.3 ∙ lowest-end (covered (look a.ends.now) a.done.now) l.v (a.n + 1) (omega arith)),
      l.invariant.2 ∙ sym (pick_same refl a.done.now (set a.done.now 0 1)),
    )

pub next_root_spec : {M : Type 1} → statement M
next_root_spec =
    tie.close
    (tie.spec
    invariant-loop
    decreases-loop
    (λ c. omega (arith, c.before.requires))
    (λ c. omega (arith, c.before.requires))
    start
    (λ c κs. (omega (arith, inside c, c.before.before.before.requires), (inside c).1))
    (λ c. (inside c.before.before).1)
    (λ c. let l = c.before.before.before.loop-v in length-set l.done l.v 1 ∙ ap length l.invariant.2)
    found
    (λ c. omega (arith, inside c.before.before, c.before.before.before.before.before.requires))
    (λ c. omega (arith, inside c.before.before))
    next
    (λ c. ap length c.before.loop-v.invariant.2)
    none)
