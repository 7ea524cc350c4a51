-- `places` meets its contract: after i turns the places of the first i sites are told.
use mathlib.Core.Path.{◌≡◌, refl}
use Prim.Native.Nat.{◌-◌, ◌≤◌}
use native.Mathlib.Omega.{arith}
use lib.ListN.{length, length-set}
use Rattle.model.specs.Limits.{PLACES, SITES}
use Rattle.lists.specs.Numbers.{look}
use Rattle.whole_parents.proofs.Laws.{Told, told-next}
use Rattle.whole_parents.proofs.places.Statement.{statement}
use Rattle.whole_parents.proofs.places.Tie as tie

abbrev invariant-loop : tie.invariant-loop-i
invariant-loop n order place₀ i₀ place i = (i ≤ n) × (length place ≡ PLACES) × Told order i place

abbrev decreases-loop : tie.decreases-loop-i
decreases-loop n order place₀ i₀ place i = n - i

loop-holds : tie.Need-loop-i-init invariant-loop decreases-loop
loop-holds c = (omega arith, refl, λ k h. absurd (omega arith))

loop-again : tie.Need-loop-i-preserved invariant-loop decreases-loop
loop-again c =
    let t = c.before.before.before in
    let s = t.before in (
      omega arith,
      simp length-set t.loop-i.invariant.1,
      told-next s.requires t.loop-i.i (omega arith) t.loop-i.place t.loop-i.invariant.1 t.loop-i.invariant.2,
    )

returns : tie.Need-returns invariant-loop decreases-loop
returns c =
    let all : c.before.loop-i.i ≡ c.before.before.args.n = omega arith in
    rw all at c.before.loop-i.invariant.2

-- the site that is read has a place
placed : (c : tie.In-loop-i invariant-loop decreases-loop) → look c.before.before.args.order.now c.before.loop-i.i ≤ SITES
placed c = let s = c.before.before in omega (arith, s.requires.few, s.requires.site c.before.loop-i.i (omega arith))

pub places_spec : {M : Type 1} → statement M
places_spec =
    tie.close
    (tie.spec
    invariant-loop
    decreases-loop
    loop-holds
    (λ c. omega (arith, c.before.before.requires.few))
    (λ c. omega arith)
    (λ c. omega (arith, c.before.before.before.requires.few))
    (λ c. omega (arith, placed c.before.before))
    (λ c. omega (arith, placed c.before.before))
    (λ c. omega arith)
    (λ c. omega arith)
    loop-again
    returns)
