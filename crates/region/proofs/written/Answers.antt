-- `written` meets its contract: badly written first, then by its value.
use Rattle.std.proofs.Common.{ap, ◌∙◌}
use Rattle.region.specs.NumberText.{within, written}
use Rattle.region.proofs.written.Goals as goal

pub returns-then-not-is_number : goal.returns-then-not-is_number
unfolding written
returns-then-not-is_number c = rw (← c.is_number.ensures, c.if-not-is_number.true)

pub returns : goal.returns
unfolding written
returns c = c.within.ensures ∙ rw (← c.is_number.ensures, c.if-not-is_number.false) (ap within c.size_of.ensures)
