-- What is held, and the choice from the links from i on.
use Rattle.std.proofs.Common.{◌≡◌, ◌≤◌, ◌++◌, take, drop}
use Rattle.tree.specs.Offer.{links}
use Rattle.theory_book.specs.Numbered.{chosen}
use Rattle.book_numbers.specs.Held.{held, Roomy}
use Rattle.book_numbers.proofs.choose.Given as goal

abbrev pub invariant-loop-i : goal.invariant-loop-i
invariant-loop-i l =
    (held l.c ++ chosen (drop l.i (links (take l.count l.one) (take l.count l.two))) l.m ≡ chosen (links (take l.count l.one) (take l.count l.two)) l.m)
    × (l.c.count ≤ l.i) × Roomy l.c
