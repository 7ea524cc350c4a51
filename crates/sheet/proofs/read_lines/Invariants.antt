-- `read_lines`: every turn takes one line from those left to those read (`Progress`).
use Rattle.std.proofs.Common.{◌-◌, length}
use Rattle.sheet.proofs.Progress.{Progress}
use Rattle.sheet.proofs.read_lines.Given as goal

abbrev pub invariant-loop-edition : goal.invariant-loop-edition
invariant-loop-edition l = Progress l.edition l.sheet l.net l.table l.parents l.at l.number

abbrev pub decreases-loop-edition : goal.decreases-loop-edition
decreases-loop-edition l = length l.sheet - l.at
