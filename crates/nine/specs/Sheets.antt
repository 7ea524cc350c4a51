-- Document 01's "Sheets to try", those marked with a star: nine sheets and the reports that 01's text and rules give for them.
-- And two sheets with their reports in whole circuits (02, Card 2).
use Rattle.std.specs.Prelude.{List, [], ◌∷◌, ◌++◌, ℕ}
use Rattle.model.specs.Text.{bytes}

-- a sheet and its report
pub record Example : Type 0 where
  pub sheet : List ℕ
  pub report : List ℕ

abbrev pub sheets : List Example
sheets =
    -- star 1, 1, 1
    record {
      sheet = bytes "network\t1\nN\thub\nN\ta\nN\tb\nN\tc\nL\thub\ta\t1\nL\thub\tb\t1\nL\thub\tc\t1\n";
      report = bytes "plan\t3\t3\nL\thub\ta\t1\t1\nL\thub\tb\t1\t1\nL\thub\tc\t1\t1\nN\thub\t-\nN\ta\ta\nN\tb\tb\nN\tc\tc\nX\ta\t1\t1\n"
          ++ bytes "X\tb\t1\t1\nX\tc\t1\t1\nP\ta\tb\t1\nP\ta\tc\t1\nP\tb\tc\t1\n";
    }
    -- star 5, 1, 1
    ∷ record {
      sheet = bytes "network\t1\nN\thub\nN\ta\nN\tb\nN\tc\nL\thub\ta\t5\nL\thub\tb\t1\nL\thub\tc\t1\n";
      report = bytes "plan\t4\t2\nL\thub\ta\t5\t2\nL\thub\tb\t1\t1\nL\thub\tc\t1\t1\nN\thub\ta\nN\ta\ta\nN\tb\tb\nN\tc\tc\n"
          ++ bytes "X\ta\t2\t2\nX\tb\t1\t1\nX\tc\t1\t1\nP\ta\tb\t2\nP\ta\tc\t2\n";
    }
    -- star 3, 1, 1, 1
    ∷ record {
      sheet = bytes "network\t1\nN\thub\nN\ta\nN\tb\nN\tc\nN\td\nL\thub\ta\t3\nL\thub\tb\t1\nL\thub\tc\t1\nL\thub\td\t1\n";
      report = bytes "plan\t6\t3\nL\thub\ta\t3\t3\nL\thub\tb\t1\t1\nL\thub\tc\t1\t1\nL\thub\td\t1\t1\nN\thub\t-\nN\ta\ta\nN\tb\tb\nN\tc\tc\n"
          ++ bytes "N\td\td\nX\ta\t3\t1\nX\tb\t1\t1\nX\tc\t1\t1\nX\td\t1\t1\nP\ta\tb\t2\nP\ta\tc\t2\nP\ta\td\t2\n";
    }
    -- star 4, 1, 1, 1
    ∷ record {
      sheet = bytes "network\t1\nN\thub\nN\ta\nN\tb\nN\tc\nN\td\nL\thub\ta\t4\nL\thub\tb\t1\nL\thub\tc\t1\nL\thub\td\t1\n";
      report = bytes "plan\t6\t3\nL\thub\ta\t4\t3\nL\thub\tb\t1\t1\nL\thub\tc\t1\t1\nL\thub\td\t1\t1\nN\thub\ta\nN\ta\ta\nN\tb\tb\nN\tc\tc\n"
          ++ bytes "N\td\td\nX\ta\t3\t2\nX\tb\t1\t1\nX\tc\t1\t1\nX\td\t1\t1\nP\ta\tb\t2\nP\ta\tc\t2\nP\ta\td\t2\n";
    }
    -- star 2, 0, 0
    ∷ record {
      sheet = bytes "network\t1\nN\thub\nN\ta\nN\tb\nN\tc\nL\thub\ta\t2\nL\thub\tb\t0\nL\thub\tc\t0\n";
      report = bytes "plan\t0\t0\nL\thub\ta\t2\t0\nL\thub\tb\t0\t0\nL\thub\tc\t0\t0\nN\thub\ta\nN\ta\ta\nN\tb\tb\nN\tc\tc\nX\ta\t0\t2\n"
          ++ bytes "X\tb\t0\t1\nX\tc\t0\t1\n";
    }
    -- path a-h-k-b of 7, 3, 5
    ∷ record {
      sheet = bytes "network\t1\nN\ta\nN\th\nN\tk\nN\tb\nL\ta\th\t7\nL\th\tk\t3\nL\tk\tb\t5\n";
      report = bytes "plan\t6\t1\nL\ta\th\t7\t3\nL\th\tk\t3\t3\nL\tk\tb\t5\t3\nN\ta\ta\nN\th\ta\nN\tk\tb\nN\tb\tb\nX\ta\t3\t2\nX\tb\t3\t2\nP\ta\tb\t6\n";
    }
    -- two sites, size 4
    ∷ record {
      sheet = bytes "network\t1\nN\ta\nN\tb\nL\ta\tb\t4\n";
      report = bytes "plan\t8\t1\nL\ta\tb\t4\t4\nN\ta\ta\nN\tb\tb\nX\ta\t4\t1\nX\tb\t4\t1\nP\ta\tb\t8\n";
    }
    -- two sites, size 0
    ∷ record {
      sheet = bytes "network\t1\nN\ta\nN\tb\nL\ta\tb\t0\n";
      report = bytes "plan\t0\t0\nL\ta\tb\t0\t0\nN\ta\ta\nN\tb\tb\nX\ta\t0\t1\nX\tb\t0\t1\n";
    }
    -- sites h, k, a, b, c, d; links h-k 10, h-a 3, h-b 3, k-c 1, k-d 1
    ∷ record {
      sheet = bytes "network\t1\nN\th\nN\tk\nN\ta\nN\tb\nN\tc\nN\td\nL\th\tk\t10\nL\th\ta\t3\nL\th\tb\t3\nL\tk\tc\t1\nL\tk\td\t1\n";
      report = bytes "plan\t8\t3\nL\th\tk\t10\t2\nL\th\ta\t3\t3\nL\th\tb\t3\t3\nL\tk\tc\t1\t1\nL\tk\td\t1\t1\nN\th\t-\nN\tk\t-\nN\ta\ta\n"
          ++ bytes "N\tb\tb\nN\tc\tc\nN\td\td\nX\ta\t3\t1\nX\tb\t3\t1\nX\tc\t1\t1\nX\td\t1\t1\nP\ta\tb\t4\nP\ta\tc\t2\nP\tb\td\t2\n";
    }
    ∷ []

abbrev pub whole_sheets : List Example
whole_sheets =
    -- star 1, 1, 1: total 2 and `Q` 1
    record {
      sheet = bytes "network\t1\nN\thub\nN\ta\nN\tb\nN\tc\nL\thub\ta\t1\nL\thub\tb\t1\nL\thub\tc\t1\n";
      report = bytes "whole\t2\t1\nL\thub\ta\t1\t1\nL\thub\tb\t1\t1\nL\thub\tc\t1\t0\nN\thub\t-\nN\ta\ta\nN\tb\tb\nN\tc\tc\n"
          ++ bytes "X\ta\t1\t1\nX\tb\t1\t1\nX\tc\t1\t1\nQ\t1\nP\ta\tb\t2\n";
    }
    -- v with links to t of 2, to x of 1, to y of 1, and two ends of size 1 at each of x and y: total 4 and `Q` 2
    ∷ record {
      sheet = bytes "network\t1\nN\tv\nN\tt\nN\tx\nN\ty\nN\tp\nN\tq\nN\tr\nN\ts\nL\tv\tt\t2\nL\tv\tx\t1\nL\tv\ty\t1\n"
          ++ bytes "L\tx\tp\t1\nL\tx\tq\t1\nL\ty\tr\t1\nL\ty\ts\t1\n";
      report = bytes "whole\t4\t2\nL\tv\tt\t2\t1\nL\tv\tx\t1\t0\nL\tv\ty\t1\t1\nL\tx\tp\t1\t1\nL\tx\tq\t1\t1\nL\ty\tr\t1\t1\nL\ty\ts\t1\t0\n"
          ++ bytes "N\tv\tt\nN\tt\tt\nN\tx\t-\nN\ty\t-\nN\tp\tp\nN\tq\tq\nN\tr\tr\nN\ts\ts\nX\tt\t2\t2\nX\tp\t1\t1\nX\tq\t1\t1\n"
          ++ bytes "X\tr\t1\t1\nX\ts\t1\t1\nQ\t2\nP\tt\tr\t2\nP\tp\tq\t2\n";
    }
    ∷ []
