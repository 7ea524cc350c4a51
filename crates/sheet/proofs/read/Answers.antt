-- `read`: either edition is within the limits.
use Rattle.sheet.proofs.Editions.{a_known_edition_is_within_the_limits}
use Rattle.sheet.proofs.read.Goals as goal

pub read_as-requires : goal.read_as-requires
read_as-requires c = rw c.edition_of.ensures (a_known_edition_is_within_the_limits _)
