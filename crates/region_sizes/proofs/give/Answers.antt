-- `give`: the region is charted once, shows its number by the chart, and is given what goes by it.
use Rattle.region_sizes.proofs.give.Goals as goal

pub returns : goal.returns
returns c = record { told = rw c.of-chart.ensures at c.give_by.ensures.told; left = rw c.of-chart.ensures at c.give_by.ensures.left }
