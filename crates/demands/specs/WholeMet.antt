-- What every report headed `whole` says is what Card 2 asks: by what it says (`wholeSays`) and by the theorems about the loads and sets taken.
use Rattle.std.specs.Prelude.{[]}
use Rattle.sheet.specs.Sheet.{Network}
use Rattle.planner.specs.Figures.{wholes}
use Rattle.demands.specs.Printed.{Printed}
use Rattle.demands.specs.ReadBack.{figures_say}

-- what the report in whole circuits says
abbrev pub whole_says : Network → Printed
whole_says net = figures_say net (wholes net)
