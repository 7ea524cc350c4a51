-- Document 01's worked report, star 5, 1, 1, a report headed `whole` (02, Card 2) and the line of a refusal, read off their bytes: by computation.
use Rattle.std.specs.Prelude.{List, [], ◌∷◌, ◌++◌, ℕ}
use Rattle.model.specs.Text.{bytes}
use Rattle.sheet.specs.Sheet.{Network}

-- the sites `hub`, `a`, `b`, `c` and their names on the sheet
abbrev pub sheet : List ℕ
sheet = bytes "network\t1\nN\thub\nN\ta\nN\tb\nN\tc\nL\thub\ta\t5\nL\thub\tb\t1\nL\thub\tc\t1\n"

abbrev pub net : Network
net = record {
  names = (12, 15) ∷ (18, 19) ∷ (22, 23) ∷ (26, 27) ∷ [];
  marks = 0 ∷ 0 ∷ 0 ∷ 0 ∷ [];
  links = (1, 2) ∷ (1, 3) ∷ (1, 4) ∷ [];
  capacities = 5 ∷ 1 ∷ 1 ∷ [];
}

abbrev pub worked : List ℕ
worked = bytes "plan\t4\t2\nL\thub\ta\t5\t2\nL\thub\tb\t1\t1\nL\thub\tc\t1\t1\nN\thub\ta\nN\ta\ta\nN\tb\tb\nN\tc\tc\nX\ta\t2\t2\n"
    ++ bytes "X\tb\t1\t1\nX\tc\t1\t1\nP\ta\tb\t2\nP\ta\tc\t2\n"

-- the same sites in whole circuits, star 1, 1, 1
abbrev pub whole : List ℕ
whole = bytes "whole\t2\t1\nL\thub\ta\t1\t1\nL\thub\tb\t1\t1\nL\thub\tc\t1\t0\nN\thub\t-\nN\ta\ta\nN\tb\tb\nN\tc\tc\nX\ta\t1\t1\n"
    ++ bytes "X\tb\t1\t1\nX\tc\t1\t1\nQ\t1\nP\ta\tb\t2\n"
