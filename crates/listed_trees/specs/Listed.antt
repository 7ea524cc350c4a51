-- The lists of a network that is a tree within the limits, as far as there are sites or links.
use Rattle.std.specs.Prelude.{take}
use Rattle.model.specs.Edition.{largest}
use Rattle.sheet.specs.declared.Lists.{Lists}
use Rattle.tree.specs.Accepted.{MarkedTree}

abbrev pub IsTree : Lists → Type 0
IsTree l = MarkedTree largest l.sites (take l.links l.one) (take l.links l.two) (take l.sites l.mark) (take l.links l.capacity)
