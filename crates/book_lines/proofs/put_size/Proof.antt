-- `put_size` meets its contract: a number has at most 20 digits.
use native.Mathlib.Omega.{arith}
use borrow.Author.Rules.{rules}
use Rattle.book_lines.specs.Laws.{number_short, number_room}
use Rattle.book_lines.proofs.put_size.Statement.{statement}
use Rattle.book_lines.proofs.put_size.Tie as tie

returns : tie.Need-returns
returns c =
    let a = c.before.before.before.before.before.args in
    let put = c.before.before.put_number.ensures in
    record { wrote = put; short = omega (arith, put.next, number_short a.size a.stop (omega arith)) }

pub put_size_spec : {M : Type 1} → statement M
put_size_spec = tie.close (tie.spec (λ c κs. number_room _ _ _ (omega arith) (omega arith)) (λ c. search rules) returns)
