-- `links_up`: after j turns the first j links stand at their children, and nothing elsewhere.
use Rattle.std.proofs.Common.{◌≡◌, length}
use Rattle.model.specs.Limits.{PLACES}
use Rattle.log_paths.specs.Rows.{LinksUp}
use Rattle.log_paths.proofs.links_up.Given as goal

abbrev pub invariant-loop-j : goal.invariant-loop-j
invariant-loop-j l = (length l.up ≡ PLACES) × LinksUp l.j l.child l.up
