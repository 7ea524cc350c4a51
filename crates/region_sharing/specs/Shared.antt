-- The answer of the code for whether two regions share one link: the number of the link in each.
-- Document 02, Card 10.
use Rattle.std.specs.Prelude.{Option, None, Some}
use Rattle.theory_regions.specs.Sharing.{Sharing, apart, sharing}
use Rattle.region_sharing.specs.declared.Shared.{Shared}

-- no, or the shared link of each border
abbrev pub shared_by : Sharing → Option Shared
shared_by apart = None
shared_by (sharing p q) = Some (record { first = p.shared; second = q.shared })
