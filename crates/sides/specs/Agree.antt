-- Two owners who show each other one number alone have what the exchange over both sheets has: for every accepted pair the first step shows the first trimmed
-- size of the shared link, and the second gives what the exchange tells and leaves. Document 02, Card 10.
use Rattle.std.specs.Prelude.{List, ℕ}
use Rattle.exchanges.specs.declared.Answer.{Answer}
use Rattle.sides.specs.Outcome.{answered_as, Side}

-- what the exchange tells of one region, and its list after, as one side's answer
abbrev pub as_side : Answer → List ℕ → Side
as_side u l = record { outcome = answered_as u.count u.sum; list = l }

-- ---- two owners
