-- Two small sheets, computed (document 02, Card 10): names in either case, editions that differ, a reserve, and the order of the refusals.
use Rattle.std.specs.Prelude.{List, ℕ}
use Rattle.model.specs.Text.{bytes}

-- `hill` joined to `dale`, over the shared link, and to a and b
abbrev pub hill : List ℕ
hill = bytes "network\t1\nN\thill\nN\ta\nN\tb\nN\tdale\nL\thill\tdale\t10\nL\thill\ta\t5\nL\thill\tb\t1\n"

-- `Dale` joined to c, to d and, over the shared link, to `HILL`
abbrev pub dale : List ℕ
dale = bytes "network\t2\nN\tc\nN\tDale\nN\tHILL\nN\td\nL\tc\tDALE\t1\nL\tHill\tDale\t12\t2\nL\tdale\td\t1\n"

-- the same with a mark of `HILL`, and without the reserve
abbrev pub marked : List ℕ
marked = bytes "network\t2\nN\tc\nN\tDale\nT\tHILL\nN\td\nL\tc\tDALE\t1\nL\tHill\tDale\t12\t2\nL\tdale\td\t1\n"

abbrev pub unreserved : List ℕ
unreserved = bytes "network\t2\nN\tc\nN\tDale\nN\tHILL\nN\td\nL\tc\tDALE\t1\nL\tHill\tDale\t12\nL\tdale\td\t1\n"
