-- `elimination::take_all` meets its contract: the loop takes the order toward the root site by site.
use Prim.Native.Nat.{◌-◌, ◌≤◌, ◌<◌}
use native.Mathlib.Omega.{arith}
use lib.ListN.{length}
use Rattle.model.specs.Limits.{SITES}
use Rattle.lists.specs.Numbers.{count, look}
use Rattle.model.specs.Flows.{Site, sites}
use Rattle.lists.specs.Sums.{same?}
use Rattle.tree_order.specs.Links.{links}
use Rattle.tree_order.specs.Steps.{Behind}
use Rattle.tree_order.proofs.Going.{Going, going_start, over, ready, next, all-taken, none_found}
use Rattle.tree_order.proofs.Searching.{behind_start, behind_alone, behind_over}
use Rattle.tree_order.proofs.take_all.Statement.{statement}
use Rattle.tree_order.proofs.take_all.Tie as tie

abbrev invariant-loop : tie.invariant-loop-i
invariant-loop n one two root sites₀ keys₀ search₀ i₀ i-end order keys search i =
    (i ≤ n - count (sites n) root) × Going (links one two) n root SITES i order keys × Behind n keys search

abbrev decreases-loop : tie.decreases-loop-i
decreases-loop n one two root sites₀ keys₀ search₀ i₀ i-end order keys search i = n - i

-- the site that is taken
low : (c : tie.Else-v-eq0 invariant-loop decreases-loop) → let t = c.before.before.before.before in
    Site t.before.before.before.before.args.n c.before.lowest-v.result × (look t.loop-i.keys c.before.lowest-v.result < 131072)
low c = c.before.lowest-v.ensures.some c.if-v-eq0.false

start : tie.Need-loop-i-init invariant-loop decreases-loop
start c =
    let p = c.before.before.before.requires in
    (omega arith, rw p.3 (going_start p.0 p.2), behind_start (omega (arith, p.0.big)))

stuck : tie.Need-returns-then-v-eq0 invariant-loop decreases-loop
stuck c =
    let t = c.before.before.before.before in
    none_found t.before.before.before.before.requires.0 t.loop-i.invariant.1
    (omega (arith, t.before.others-i-end.ensures, c.before.before.before.loop-i-test.true))
    (λ x p. c.before.lowest-v.ensures.none c.if-v-eq0.true x p p.0)

take : tie.Need-take-w-requires invariant-loop decreases-loop
take c κs =
    let e = c.before.before in
    let t = e.before.before.before.before in
    ready t.before.before.before.before.requires.0 t.loop-i.invariant.1 e.before.lowest-v.result (low e).0 (low e).1

-- the other end is a site or 0
place : (c : tie.After-take-w invariant-loop decreases-loop) → c.take-w.result ≤ SITES
place c =
    let e = c.before.before.before in
    let t = e.before.before.before.before in
    let p = t.before.before.before.before.requires.0 in
    same? (look t.loop-i.keys e.before.lowest-v.result) 0
    (λ z. omega (arith, (c.take-w.ensures.alone z).0))
    (λ d. omega (arith, (c.take-w.ensures.over d).0, (over p t.loop-i.invariant.1 e.before.lowest-v.result (low e).0 (low e).1 d).end, p.few))

again : tie.Need-loop-i-preserved invariant-loop decreases-loop
again c =
    let k = c.before in
    let e = k.before.before.before in
    let t = e.before.before.before.before in
    let p = t.before.before.before.before.requires.0 in
    let v = e.before.lowest-v.result in
    let s = low e in
    let below = e.before.lowest-v.ensures.below e.if-v-eq0.false in
    let g = t.loop-i.invariant.1 in
    let i = t.before.others-i-end.ensures in
    let long : t.before.before.before.before.args.n < length t.loop-i.keys = omega (arith, g.untaken.places, p.few) in
    let took = k.take-w.ensures in (
      omega (arith, i, e.before.before.before.loop-i-test.true),
      next p g v s.0 s.1 (omega (arith, i, e.before.before.before.loop-i-test.true)) (λ x q. below x q q.0) took,
      same? (look t.loop-i.keys v) 0
          (λ z. rw (took.alone z).1 (behind_alone t.loop-i.invariant.2 s.0 s.1 below long _
          (rw ((took.alone z).0, (took.alone z).1) at c.onward-search.ensures)))
          (λ d. let o = over p g v s.0 s.1 d in
          rw (took.over d).1 (behind_over t.loop-i.invariant.2 s.0 s.1 below long k.take-w.result _ _ (rw (took.over d).0 o.end)
          (rw (took.over d).0 o.other)
          (rw (took.over d).1 at c.onward-search.ensures))),
    )

at-end : tie.Need-returns invariant-loop decreases-loop
at-end c =
    let t = c.before in
    let p = t.before.before.before.before.requires in
    all-taken p.0 t.loop-i.invariant.1 p.1 (omega (arith, t.before.others-i-end.ensures, c.loop-i-test.false, t.loop-i.invariant.0))

pub take_all_spec : {M : Type 1} → statement M
take_all_spec =
    tie.close
    (tie.spec
    invariant-loop
    decreases-loop
    (λ c κs. c.before.before.requires.1)
    start
    (λ c κs. let t = c.before.before in (t.before.before.before.before.requires.0.few, t.loop-i.invariant.2))
    stuck
    (λ c. omega arith)
    (λ c. omega arith)
    take
    (λ c. omega (arith, place c))
    (λ c. omega (arith, place c))
    (λ c κs. tt)
    (λ c. omega arith)
    (λ c. omega arith)
    again
    at-end)
