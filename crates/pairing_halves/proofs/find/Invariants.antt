-- `find`: the entries before `at` are passed.
use Rattle.pairing_halves.proofs.Finding.{Finding}
use Rattle.pairing_halves.proofs.find.Given as goal

abbrev pub invariant-loop-at : goal.invariant-loop-at
invariant-loop-at l = Finding l.list l.from l.to l.k l.at l.left
