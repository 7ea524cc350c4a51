-- `put_owner`: a member without an owner gets one, and one that has an owner keeps it.
use Rattle.std.proofs.Common.{◌∙◌}
use Rattle.tree_sets.specs.Members.{member}
use Rattle.tree_sets.specs.Laws.{coming_start}
use Rattle.cuts_groups.proofs.Owners.{put_at_members, members_in_place}
use Rattle.cuts_groups.proofs.put_owner.Goals as goal

pub loop-i-init : goal.loop-i-init
loop-i-init c =
    let cut = member c.args.cut in
    let come = coming_start cut (c.into_iter-i-iterator.ensures.into_iter_gives ∙ c.members-i-items.ensures) in
    record { ahead = put_at_members c.args.owner.now cut c.args.a _ c.requires come; in_place = members_in_place cut _ 0 come }
