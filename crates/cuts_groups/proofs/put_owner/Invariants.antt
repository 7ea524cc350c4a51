-- `put_owner`: put at the members still to come, a stands where the cut has a place without an owner; all of them are places of the owners.
use Rattle.std.proofs.Common.{◌≡◌, ◌≤◌, map}
use Rattle.model.specs.Limits.{SITES}
use Rattle.lists.specs.Numbers.{upfrom}
use Rattle.tree_sets.specs.Members.{member}
use Rattle.cuts_groups.specs.Steps.{claim}
use Rattle.cuts_groups.proofs.Owners.{put_at_each, above}
use Rattle.cuts_groups.proofs.put_owner.Given as goal

abbrev pub invariant-loop-i : goal.invariant-loop-i
invariant-loop-i l = record {
  ahead : put_at_each l.a l.owner l.i-iterator ≡ map (claim l.initial.owner (member l.fn.cut) l.a) (upfrom 0 SITES);
  in_place : above l.i-iterator ≤ SITES;
}
