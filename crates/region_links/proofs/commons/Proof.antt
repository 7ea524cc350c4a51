-- `commons` meets its contract: the sites so far are counted.
use mathlib.Core.Path.{◌≡◌, refl, ap, ◌∙◌}
use Prim.Native.Nat.{suc, ◌+◌, ◌-◌, ◌≤◌}
use native.Mathlib.Omega.{arith}
use Rattle.lists.specs.Numbers.{differ, look, sum}
use Rattle.lists.specs.Sums.{differ-le}
use Rattle.tree.specs.Places.{sum-next}
use Rattle.region_links.proofs.commons.Statement.{statement}
use Rattle.region_links.proofs.commons.Tie as tie

abbrev invariant-loop : tie.invariant-loop-i
invariant-loop n partners count₀ i₀ count i = (i ≤ n) × (count ≤ i) × (count ≡ sum i (λ k. differ (look partners (suc k)) 0))

abbrev decreases-loop : tie.decreases-loop-i
decreases-loop n partners count₀ i₀ count i = n - i

loop-holds : tie.Need-loop-i-init invariant-loop decreases-loop
unfolding sum
loop-holds c = (omega arith, omega arith, refl)

loop-again : tie.Need-loop-i-preserved invariant-loop decreases-loop
loop-again c =
    let t = c.before.before.before.before in
    let a = t.before.args in
    let up : t.loop-i.i + 1 ≡ suc t.loop-i.i = omega arith in (
      omega arith,
      omega (arith, t.loop-i.invariant.1, c.counted-count.ensures, differ-le (look a.partners.now (t.loop-i.i + 1)) 0),
      sum-next _ t.loop-i.i t.loop-i.invariant.2 (c.counted-count.ensures ∙ ap (λ k. differ (look a.partners.now k) 0) up),
    )

returns : tie.Need-returns invariant-loop decreases-loop
returns c =
    let t = c.before in
    let a = t.before.args in
    let all : t.loop-i.i ≡ a.n = omega arith in
    t.loop-i.invariant.2 ∙ ap (λ i. sum i (λ k. differ (look a.partners.now (suc k)) 0)) all

pub commons_spec : {M : Type 1} → statement M
commons_spec =
    tie.close
    (tie.spec
    invariant-loop
    decreases-loop
    loop-holds
    (λ c. omega arith)
    (λ c. omega arith)
    (λ c. omega arith)
    (λ c κs. tt)
    (λ c. let t = c.before.before.before.before in
    omega (arith, c.counted-count.ensures, differ-le (look t.before.args.partners.now (t.loop-i.i + 1)) 0))
    (λ c. omega arith)
    (λ c. omega arith)
    loop-again
    returns)
