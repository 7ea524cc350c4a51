-- `elimination::take` meets its contract: what can be taken over a link has all that is read and written.
use mathlib.Core.Path.{refl}
use native.Mathlib.Omega.{arith}
use lib.Seq.{get_or-set_other}
use Rattle.tree_order.specs.Steps.{Over}
use Rattle.tree_order.proofs.take.Statement.{statement}
use Rattle.tree_order.proofs.take.Tie as tie

over : (c : tie.Else-share-eq0) → let s = c.before.before.before in Over s.requires.n s.args.one.now s.args.two.now s.args.keys.now s.args.v
over c = c.before.before.before.requires.over c.if-share-eq0.false

alone : tie.Need-returns-then-share-eq0
alone c = record { alone = λ e. (refl, refl); over = λ d. absurd (d c.if-share-eq0.true) }

enough : tie.Need-overflow_sub-keys
enough c =
    let s = c.before.before.before.before.before.before in
    let o = over c.before.before.before in
    omega (arith, o.less, get_or-set_other s.args.keys.now s.args.v _ 131072 0 o.other)

taken : tie.Need-returns
taken c = record { alone = λ e. absurd (c.before.before.before.if-share-eq0.false e); over = λ d. (refl, refl) }

pub take_spec : {M : Type 1} → statement M
take_spec =
    tie.close
    (tie.spec
    (λ c. omega arith)
    (λ c. omega arith)
    (λ c. omega arith)
    (λ c. omega arith)
    alone
    (λ c. (over c).share)
    (λ c. omega (arith, over c))
    (λ c. (over c.before).position.0)
    (λ c. (over c.before).share)
    (λ c. omega (arith, over c.before))
    (λ c. (over c.before.before).position.1)
    (λ c. omega (arith, over c.before.before))
    (λ c. (over c.before.before).enough)
    (λ c. omega (arith, over c.before.before))
    (λ c. omega (arith, over c.before.before))
    enough
    (λ c. omega (arith, over c.before.before.before))
    taken)
