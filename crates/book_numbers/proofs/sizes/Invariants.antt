-- The first i sizes, and the digits after them.
use Rattle.std.proofs.Common.{◌≡◌, ◌-◌, ◌++◌, length, take}
use Rattle.theory_book.specs.Numbered.{word}
use Rattle.book_numbers.proofs.sizes.Given as goal

abbrev pub invariant-loop-i : goal.invariant-loop-i
invariant-loop-i l = (length l.list ≡ 4) × (take l.i l.list ++ word 3 (l.k - l.i) l.s ≡ word 3 l.k l.s)
