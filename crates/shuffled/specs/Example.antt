-- Two sheets that hold the same records in different orders, computed: names in either case, a link with its names exchanged, a reserve of 0 that is not
-- written, a mark. Their reports agree in all that Card 14 names; their pairs differ, even in number.
use mathlib.Core.List.{[], ◌++◌}
use Rattle.model.specs.Text.{bytes}
use Rattle.report.specs.Report.{report}
use Rattle.nine.specs.Sheets.{Example}

-- the hub with links of 2, 2 (3 less a reserve of 1), 1 and 1
abbrev pub one : Example
one = record {
  sheet = bytes "network\t1\nN\thub\nN\ta\nT\tb\nN\tc\nN\td\nL\thub\ta\t2\nL\thub\tb\t3\t1\nL\thub\tc\t1\nL\thub\td\t1\n";
  report = bytes "plan\t6\t3\nL\thub\ta\t2\t2\nL\thub\tb\t2\t2\nL\thub\tc\t1\t1\nL\thub\td\t1\t1\nN\thub\t-\nN\ta\ta\nN\tb\tb\nN\tc\tc\nN\td\td\n"
      ++ bytes "X\ta\t2\t1\nX\tb\t2\t1\nX\tc\t1\t1\nX\td\t1\t1\nP\ta\tb\t2\nP\ta\tc\t2\nP\tb\td\t2\n";
}

abbrev pub two : Example
two = record {
  sheet = bytes "network\t1\nN\tHub\nN\ta\nN\tc\nT\tB\nL\tb\thub\t3\t1\nN\td\nL\tHUB\tA\t2\t0\nL\td\thub\t1\nL\thub\tc\t1\n";
  report = bytes "plan\t6\t2\nL\tB\tHub\t2\t2\nL\tHub\ta\t2\t2\nL\td\tHub\t1\t1\nL\tHub\tc\t1\t1\nN\tHub\t-\nN\ta\ta\nN\tc\tc\nN\tB\tB\nN\td\td\n"
      ++ bytes "X\ta\t2\t1\nX\tc\t1\t1\nX\tB\t2\t1\nX\td\t1\t1\nP\ta\tB\t4\nP\tc\td\t2\n";
}
