-- `trimming_passes::lower` meets its contract: the sums at the two sites of a link have what the link has.
use mathlib.Core.Path.{refl}
use Prim.Native.Nat.{◌≤◌, ◌-◌}
use native.Mathlib.Omega.{arith}
use borrow.Author.Rules.{rules}
use Rattle.model.specs.Limits.{SITES}
use Rattle.lists.specs.Numbers.{look}
use Rattle.trimming_passes.proofs.Summing.{room_first, room_second, lowered-kept}
use Rattle.trimming_passes.proofs.lower.Statement.{statement}
use Rattle.trimming_passes.proofs.lower.Tie as tie

-- the two sites of the link have a place
placed : (s : tie.Start) → let a = s.args in (look a.one.now a.j ≤ SITES) × (look a.two.now a.j ≤ SITES)
placed s = s.requires.2.placed.sites s.args.j s.requires.0

from_first : tie.Need-overflow_sub-sums
from_first c =
    let s = c.before.before.before.before.before in
    omega (arith, room_first s.requires.2 s.args.j s.requires.0, s.requires.1)

from_second : tie.Need-overflow_sub-sums-2
from_second c =
    let s = c.before.before.before.before.before.before in
    let a = s.args in
    omega (arith, room_second s.requires.2 a.j s.requires.0 (look a.sums.now (look a.one.now a.j) - a.d), s.requires.1)

returns : tie.Need-returns
returns c =
    let s = c.before.before.before.before.before.before in
    (refl, lowered-kept s.requires.2 s.args.j s.requires.0 s.args.d s.requires.1)

pub lower_spec : {M : Type 1} → statement M
lower_spec =
    tie.close
    (tie.spec
    (λ c. omega arith)
    (λ c. omega arith)
    (λ c. omega arith)
    (λ c. omega arith)
    (λ c. omega arith)
    (λ c. omega arith)
    (λ c. omega arith)
    (λ c. omega arith)
    (λ c. omega (arith, placed c.before.before.before))
    (λ c. omega (arith, placed c.before.before.before.before))
    from_first
    (λ c. omega (arith, placed c.before.before.before.before.before))
    (λ c. omega (arith, placed c.before.before.before.before.before))
    (λ c. omega (arith, placed c.before.before.before.before.before))
    from_second
    (λ c. omega (arith, placed c.before.before.before.before.before.before))
    (λ c. search rules)
    returns)
