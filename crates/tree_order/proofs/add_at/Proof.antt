-- `elimination::add_at` meets its contract, by the law of a list with more at two places.
use native.Mathlib.Omega.{arith}
use lib.Seq.{get_or-set_other}
use lib.ListN.{length-set}
use Prim.Native.Nat.{◌+◌}
use Rattle.lists.specs.Numbers.{look}
use mathlib.Core.Path.{sym}
use Rattle.tree_order.proofs.Untaken.{raised}
use Rattle.tree_order.proofs.add_at.Statement.{statement}
use Rattle.tree_order.proofs.add_at.Tie as tie

add-list-2 : tie.Need-overflow_add-list-2
add-list-2 c =
    let s = c.before.before.before in
    let a = s.args in
    omega (arith, s.requires.5 a.b, get_or-set_other a.list.now a.a a.b (look a.list.now a.a + a.d) 0 (λ e. s.requires.3 (sym e)))

returns : tie.Need-returns
returns c = let s = c.before.before.before in
    (simp length-set s.requires.0, λ x. raised s.args.list.now s.args.a s.args.b s.args.d x (omega arith) (omega arith) s.requires.3)

pub add_at_spec : {M : Type 1} → statement M
add_at_spec =
    tie.close
    (tie.spec
    (λ c. omega arith)
    (λ c. omega arith)
    (λ c. omega (arith, c.before.before.requires.5 c.before.before.args.a))
    (λ c. omega arith)
    (λ c. omega arith)
    (λ c. omega arith)
    add-list-2
    (λ c. omega arith)
    returns)
