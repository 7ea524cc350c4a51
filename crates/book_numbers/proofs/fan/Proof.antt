-- `fan` meets its contract. The loop's invariant: i links more.
use mathlib.Core.Path.{◌≡◌, ap, ◌∙◌}
use mathlib.Core.List.{[], ◌∷◌, ◌++◌}
use Prim.Native.Nat.{◌+◌, ◌-◌, ◌≤◌}
use native.Mathlib.Omega.{arith}
use Rattle.book_numbers.specs.Held.{held, fan_of, Roomy}
use Rattle.book_numbers.specs.Laws.{fan_none, fan_more}
use Rattle.book_numbers.proofs.fan.Statement.{statement}
use Rattle.book_numbers.proofs.fan.Tie as tie

abbrev invariant-loop : tie.invariant-loop-i
invariant-loop a more all₀ i₀ all i = (i ≤ more) × (held all ≡ held all₀ ++ fan_of a i) × (all.count ≡ all₀.count + i) × Roomy all

abbrev decreases-loop : tie.decreases-loop-i
decreases-loop a more all₀ i₀ all i = more - i

loop-holds : tie.Need-loop-i-init invariant-loop decreases-loop
loop-holds c = (omega arith, fan_none _ _, omega arith, c.requires.2)

add_push : tie.Need-overflow_add-a invariant-loop decreases-loop
add_push c = omega arith

add-push-2 : tie.Need-overflow_add-a-in-loop-i invariant-loop decreases-loop
add-push-2 c = omega arith

push-requires : tie.Need-push-all-requires invariant-loop decreases-loop
push-requires c κs = (omega arith, c.before.loop-i.invariant.3)

add-i : tie.Need-overflow_step-i invariant-loop decreases-loop
add-i c = omega arith

loop-less : tie.Need-loop-i-smaller invariant-loop decreases-loop
loop-less c = omega arith

loop-again : tie.Need-loop-i-preserved invariant-loop decreases-loop
loop-again c =
    let top = c.before.before in
    let s = top.before.args in
    let p = c.push-all.ensures in (
      omega arith,
      p.0 ∙ ap (λ l. l ++ ((s.a, s.a + 1 + top.loop-i.i) ∷ [])) top.loop-i.invariant.1 ∙ fan_more s.a top.loop-i.i (held s.c),
      omega (arith, p.1, top.loop-i.invariant.2),
      p.2,
    )

returns : tie.Need-returns invariant-loop decreases-loop
returns c =
    let e : c.before.loop-i.i ≡ c.before.before.args.more = omega arith in
    rw (← e) (c.before.loop-i.invariant.1, c.before.loop-i.invariant.2, c.before.loop-i.invariant.3)

pub fan_spec : {M : Type 1} → statement M
fan_spec =
    tie.close
    (tie.spec
    invariant-loop
    decreases-loop
    loop-holds
    add_push
    add-push-2
    push-requires
    add-i
    loop-less
    loop-again
    returns)
