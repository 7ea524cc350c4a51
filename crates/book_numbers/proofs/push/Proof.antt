-- `push` meets its contract.
use native.Mathlib.Omega.{arith}
use borrow.Author.Rules.{rules}
use Rattle.book_numbers.specs.Laws.{one_more}
use Rattle.book_numbers.proofs.push.Statement.{statement}
use Rattle.book_numbers.proofs.push.Tie as tie

mul-one : tie.Need-offset_bounds-one-at
mul-one c = search rules

array-write-one : tie.Need-bounds-one-at
array-write-one c = search rules

mul-two : tie.Need-offset_bounds-two-at
mul-two c = search rules

array-write-two : tie.Need-bounds-two-at
array-write-two c = search rules

add-t7 : tie.Need-overflow_add-result
add-t7 c = search rules

returns : tie.Need-returns
returns c =
    let s = c.before.before.args in (
      one_more s.c.one s.c.two s.c.count s.a s.b (omega arith) (omega arith),
      omega arith,
      record { firsts = search rules; seconds = search rules },
    )

pub push_spec : {M : Type 1} → statement M
push_spec = tie.close (tie.spec mul-one array-write-one mul-two array-write-two add-t7 returns)
